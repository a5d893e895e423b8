-- The machine from which tries continue, that a session of tries holds.
use Rattle.std.specs.Prelude.{Option, Some, None}
use Rattle.std.proofs.Props.{props}
use Rattle.checkpoints.specs.Effects.{IsOfSetup}
use Rattle.checkpoints.specs.Work.{ForkMoves, Work}
use Rattle.checkpoints.specs.declared.effect.Effect.{Effect}
use Rattle.checkpoints.specs.declared.effect.Effect.TheVariants.{Nowhere, After, Input, End, Heap, Patch, Anew}
use Rattle.replay_session.specs.Trying.{IsForkPoint, fork-point-prop}
use Rattle.run_values.specs.declared.span.Span.{Span}
use Rattle.scenario.specs.Scenario.{Scenario}
use Rattle.tries.specs.declared.trying.Held.{Held}

-- what is held, if anything, is a fork point for edits with its effect, which change only the setup; and another fork
-- of the run would leave the work as it is
abbrev pub IsHeld : Scenario → Span → Work → Option Held → Type 0
IsHeld sc range work None = Unit {0}
IsHeld sc range work (Some held) =
    IsOfSetup held.effect × IsForkPoint sc held.effect range held.fork_point × ForkMoves sc.step work work

of-setup-prop : (effect : Effect) → IsProp (IsOfSetup effect)
of-setup-prop Nowhere = hlevel props
of-setup-prop (After step) = hlevel props
of-setup-prop (Input offset) = hlevel props
of-setup-prop End = hlevel props
of-setup-prop Heap = hlevel props
of-setup-prop (Patch addr code) = hlevel props
of-setup-prop (Anew addr code) = hlevel props

pub held-prop : (sc : Scenario) (range : Span) (work : Work) (held : Option Held) → IsProp (IsHeld sc range work held)
held-prop sc range work None = hlevel props
held-prop sc range work (Some held) = hlevel (of-setup-prop, fork-point-prop, props)

-- The run of a session with other bytes as its input, tried from a machine at which they don't show yet.
use Rattle.std.specs.Prelude.{◌≡◌, ℕ, false, List, take}
use Rattle.std.proofs.Props.{props}
use Rattle.checkpoints.specs.Compares.{compares_between}
use Rattle.checkpoints.specs.Forks.{IsForkFor, WritesWhole}
use Rattle.checkpoints.specs.Known.{IsKnown, known-prop}
use Rattle.checkpoints.specs.OneProof.{shows-prop}
use Rattle.checkpoints.specs.declared.compares.Compare.{Compare}
use Rattle.checkpoints.specs.declared.effect.Effect.{Effect}
use Rattle.checkpoints.specs.declared.effect.Effect.TheVariants.{Nowhere, After, Input, End, Heap, Patch, Anew}
use Rattle.commands.specs.declared.edit.Edit.{Edit}
use Rattle.commands.specs.declared.edit.Edit.TheVariants.{Overwrite, Give}
use Rattle.run_values.specs.declared.span.Span.{Span}
use Rattle.scenario.specs.Scenario.{Scenario, IsOutlineOf, first_state, run_of}
use Rattle.replay_session.specs.Session.{IsSidesOf}
use Rattle.replay_session.specs.declared.trying.Compared.{Compared}
use Rattle.replay_session.specs.declared.trying.ForkPoint.{ForkPoint}
use Rattle.replay_session.specs.declared.trying.Tried.{Tried}

-- the edit gives the input bytes, and nothing else
abbrev pub GivesInput : Edit → Type 0
GivesInput (Overwrite offset bytes) = Unit {0}
GivesInput (Give bytes) = Unit {0}
GivesInput _ = ⊥

-- a fork of a scenario's run for edits with an effect, and what the steps before it have done with each instruction of
-- a range
pub record IsForkPoint (sc : Scenario) (effect : Effect) (range : Span) (fork_point : ForkPoint) : Type 0 where
  pub fork : IsForkFor effect (run_of sc) sc.step fork_point.fork
  pub sides : IsKnown (first_state sc) sc.setup sc.marks fork_point.fork.step range fork_point.sides.items

-- the outcome of a scenario's run, and what its steps have done with each instruction of a range
pub record IsTried (sc : Scenario) (range : Span) (tried : Tried) : Type 0 where
  pub outcome : IsOutlineOf false sc tried.outcome.items
  pub sides : IsSidesOf sc range tried.sides.items

-- the compares of a scenario's run from a step on, below the chosen one
abbrev pub compares_of : Scenario → ℕ → List Compare
compares_of sc from = compares_between (first_state sc) sc.setup sc.marks from sc.step

-- the first of these of two scenarios
pub record IsCompared (sc edited : Scenario) (from most : ℕ) (compared : Compared) : Type 0 where
  pub own : compared.own.items ≡ take most (compares_of sc from)
  pub other : compared.other.items ≡ take most (compares_of edited from)

-- that a fork point is one has at most one proof, so a type can keep it as a ghost field
whole-prop : (effect : Effect) → IsProp (WritesWhole effect)
whole-prop Nowhere = hlevel props
whole-prop (After step) = hlevel props
whole-prop (Input offset) = hlevel props
whole-prop End = hlevel props
whole-prop Heap = hlevel props
whole-prop (Patch addr code) = hlevel props
whole-prop (Anew addr code) = hlevel props

pub fork-point-prop : (sc : Scenario) (effect : Effect) (range : Span) (fork_point : ForkPoint)
    → IsProp (IsForkPoint sc effect range fork_point)
fork-point-prop sc effect range fork_point = hlevel (whole-prop, shows-prop, known-prop, props)

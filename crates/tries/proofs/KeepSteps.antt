-- What a session of tries holds from line to line, and leaves.
use Rattle.std.proofs.Common.{◌≡◌, ◌⊎◌, ◌∙◌, List, ℕ, Some, subst, sym, inl, inr}
use Rattle.std.specs.Prelude.{Result, Ok, Err, OnErr, OnOk}
use Rattle.checkpoints.specs.Effects.{IsOfSetup}
use Rattle.checkpoints.specs.Work.{ForkMoves, Work}
use Rattle.checkpoints.specs.declared.effect.Effect.{Effect}
use Rattle.commands.specs.declared.fault.Fault.TheVariants.{Memory}
use Rattle.looks.specs.Views.{Leaves}
use Rattle.checkpoints.specs.declared.trail.Trail.{Trail}
use Rattle.replay_session.specs.Stages.{Stage}
use Rattle.replay_session.specs.Trying.{IsForkPoint}
use Rattle.replay_session.specs.Work.{work_on}
use Rattle.run_values.specs.declared.span.Span.{Span}
use Rattle.scenario.specs.Scenario.{Scenario}
use Rattle.tries.specs.Holding.{IsHeld}
use Rattle.tries.specs.Tries.{Keeps, LeavesBase, Refused, TriesStage}
use Rattle.tries.specs.declared.trying.Held.{Held}
use Rattle.tries.proofs.WorkSteps.{rests}

-- after a fork, another one of the same trail leaves the work
pub rested : (n : ℕ) (old : Work) (mid new : Trail) → ForkMoves n old (work_on mid) → new ≡ mid
    → ForkMoves n (work_on new) (work_on new)
rested n old mid new moves same =
    subst (λ t. ForkMoves n (work_on t) (work_on t)) (sym same) (rests n old (work_on mid) moves)

-- a fork point of a scenario's run is held for the same scenario
pub held-is : (now sc : Scenario) (range at : Span) (effect : Effect) (held : Held) (work : Work) → now ≡ sc
    → at ≡ range
    → held.effect ≡ effect → IsOfSetup effect → IsForkPoint sc effect range held.fork_point
    → ForkMoves sc.step work work
    → IsHeld now at work (Some held)
held-is now sc range at effect held work same there is of fork_point rests = (
  subst IsOfSetup (sym is) of,
  subst (λ s. IsForkPoint s held.effect at held.fork_point) (sym same)
      (subst (λ r. IsForkPoint sc held.effect r held.fork_point) (sym there)
      (subst (λ e. IsForkPoint sc e range held.fork_point) (sym is) fork_point)),
  subst (λ (s : Scenario). ForkMoves s.step work work) (sym same) rests,
)

leaves-on : (a b c : Stage) → Leaves a b → Leaves b c → Leaves a c
leaves-on a b c one two = record { turn = two.turn ∙ one.turn; short = two.short ∙ one.short }

pub base-on : (a b c : TriesStage) → LeavesBase a b → LeavesBase b c → LeavesBase a c
base-on a b c one two = record {
  session = leaves-on a.session b.session c.session one.session two.session;
  range = two.range ∙ one.range;
}

keeps-on : (a b c : TriesStage) → Keeps a b → Keeps b c → Keeps a c
keeps-on a b c one two =
    record { told = two.told ∙ one.told; seen = two.seen ∙ one.seen; last = two.last ∙ one.last }

-- what was told, or that memory ran out
pub told-so : {X E : Type 0} (done : Result X E) (old mid new : TriesStage) (shown reply : List ℕ)
    (T : List ℕ → TriesStage → Type 0)
    → OnOk done (T shown mid) → OnErr done (Keeps old mid)
    → OnOk done ((new ≡ mid) × (reply ≡ shown)) → OnErr done (Refused mid Memory reply new)
    → T reply new ⊎ Refused old Memory reply new
told-so (Ok x) old mid new shown reply T told kept same refused =
    inl (subst (λ s. T reply s) (sym same.0) (subst (λ r. T r mid) (sym same.1) told))
told-so (Err e) old mid new shown reply T told kept same refused =
    inr (record { replies = refused.replies; keeps = keeps-on old mid new kept refused.keeps })

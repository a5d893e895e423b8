-- How tries move the work, one after another.
use Rattle.std.proofs.Common.{◌≡◌, ◌+◌, ◌++◌, ◌∙◌, ℕ, List, [], ◌∷◌, ap, arith, refl, subst, sym}
use Rattle.checkpoints.specs.Work.{ForkMoves, Work, floor, next_held}
use Rattle.checkpoints.proofs.SpacingSteps.{next-floor}
use Rattle.looks.specs.Views.{Leaves}
use Rattle.replay_session.specs.Stages.{Stage}
use Rattle.replay_session.specs.Turns.{Turn}
use Rattle.tries.specs.Tries.{PlanMoves, TryMoves}
use Rattle.tries.specs.declared.plans.Attempt.{Attempt}

-- after a fork another one leaves the work
pub rests : (n : ℕ) (old new : Work) → ForkMoves n old new → ForkMoves n new new
rests n old new moves =
    let there : floor new.apart (next_held new.apart n) ≡ floor old.apart (next_held old.apart n) =
    ap (λ s. floor s (next_held s n)) moves.1 in
    let next = next-floor new.apart n in
    ((omega (arith, moves.0.0, there), omega (arith, moves.0.0, moves.0.1, there, next)), refl)

fork-on : (n : ℕ) (a b c : Work) → ForkMoves n a b → ForkMoves n b c → ForkMoves n a c
fork-on n a b c one two =
    let there : floor b.apart (next_held b.apart n) ≡ floor a.apart (next_held a.apart n) =
    ap (λ s. floor s (next_held s n)) one.1 in
    let next = next-floor b.apart n in (
      (omega (arith, one.0.0, two.0.0, there), omega (arith, one.0.0, one.0.1, two.0.1, there, next)),
      two.1 ∙ one.1,
    )

same-step : (a b : Stage) → Leaves a b → b.turn.scenario.step ≡ a.turn.scenario.step
same-step a b same = ap (λ (turn : Turn). turn.scenario.step) same.turn

-- a try after one that left the work, and after one that moved it
try-after : (a b c : Stage) → Leaves a b → b.work ≡ a.work → TryMoves b c → TryMoves a c
try-after a b c base same moves =
    subst (λ n. ForkMoves n a.work c.work) (same-step a b base)
    (subst (λ w. ForkMoves b.turn.scenario.step w c.work) same moves)

try-again : (a b c : Stage) → Leaves a b → TryMoves a b → TryMoves b c → TryMoves a c
try-again a b c base one two =
    fork-on a.turn.scenario.step a.work b.work c.work one
    (subst (λ n. ForkMoves n b.work c.work) (same-step a b base) two)

plan-on : (xs ys : List Attempt) (a b c : Stage) → Leaves a b → PlanMoves xs a b → PlanMoves ys b c
    → PlanMoves (xs ++ ys) a c
plan-on [] [] a b c base one two = two ∙ one
plan-on [] (y ∷ ys) a b c base one two = try-after a b c base one two
plan-on (x ∷ xs) [] a b c base one two =
    subst (λ w. ForkMoves a.turn.scenario.step a.work w) (sym two) one
plan-on (x ∷ xs) (y ∷ ys) a b c base one two = try-again a b c base one two

-- a turn of a loop over lists that grow
pub plan-more : (f g : ℕ → List Attempt) → ((n : ℕ) → f (n + 1) ≡ f n ++ g n) → (n : ℕ) (a b c : Stage)
    → Leaves a b → PlanMoves (f n) a b → PlanMoves (g n) b c → PlanMoves (f (n + 1)) a c
plan-more f g more n a b c base one two =
    subst (λ xs. PlanMoves xs a c) (sym (more n)) (plan-on (f n) (g n) a b c base one two)

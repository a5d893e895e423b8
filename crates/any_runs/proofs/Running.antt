-- One run stands for others, by induction over its steps.
use Rattle.std.proofs.Common.{ℕ, zero, suc, ◌≤◌, arith, sym, subst}
use Rattle.std.proofs.Common.{inl, inr}
use Rattle.std.proofs.lemmas.Bool.{cases_eq}
use Rattle.guest_machine.specs.State.{State}
use Rattle.guest_machine.specs.Exec.{exec}
use Rattle.guest_machine.specs.declared.setup.Setup.{Setup}
use Rattle.clean_reports.specs.Uses.{NoUse}
use Rattle.any_runs.specs.Sharper.{HasStackPointer}
use Rattle.any_runs.specs.Stands.{Stands, Changes, before, at_step, IsFit, Keeps}
use Rattle.clean_reports.specs.Heap.{BlocksAreOpen}
use Rattle.any_runs.proofs.Tests.{left-none}

-- the law of a step under one setup
abbrev pub StepStandsUnder : Setup → Type 0
StepStandsUnder setup =
    (s t : State) → Stands s t → BlocksAreOpen s.core → HasStackPointer s → HasStackPointer (exec s setup)
    → NoUse (exec s setup).events → Stands (exec s setup) (exec t setup)

-- a use before a step is one after it
fewer : (s : State) (setup : Setup) → NoUse (exec s setup).events → NoUse s.events
unfolding exec
fewer s setup none = left-none s.events _ none

module _ (setup : Setup) (law : StepStandsUnder setup) (start begun : State) (change other : Changes)
    (first : Stands start begun) where
  abbrev KeepsTo : ℕ → Type 0
  KeepsTo n = (k : ℕ) → k ≤ n → Keeps change other (before start setup change k) (before begun setup other k) k

  -- the states before step n, and those from which it is made
  pub stand-before : (n : ℕ) → KeepsTo n → IsFit start setup change n
      → Stands (before start setup change n) (before begun setup other n)
  unfolding before
  stand-before zero keeps fit = first
  stand-before (suc k) keeps fit =
      let s = at_step start setup change k in
      let none = fit.uses in
      let earlier = subst NoUse (keeps k (omega arith)).events (fewer s setup none) in
      let here = stand-before k (λ j h. keeps j (omega arith)) (record {
        blocks = λ j h. fit.blocks j (omega arith);
        pointer = λ j h. fit.pointer j (omega arith);
        left = λ j h. fit.left j (omega arith);
        uses = earlier;
      }) in
      law s (at_step begun setup other k) ((keeps k (omega arith)).stands here) (fit.blocks k (omega arith))
      (fit.pointer k (omega arith)) (fit.left k (omega arith)) none

  pub stand-at : (n : ℕ) → KeepsTo n → IsFit start setup change n
      → Stands (at_step start setup change n) (at_step begun setup other n)
  stand-at n keeps fit = (keeps n (omega arith)).stands (stand-before n keeps fit)

  -- a run that is fit up to step n is so up to an earlier one
  pub fit-earlier : (n k : ℕ) → k ≤ n → KeepsTo n → IsFit start setup change n → IsFit start setup change k
  unfolding before
  fit-earlier n k h keeps fit = record {
    blocks = λ j l. fit.blocks j (omega (arith, l, h));
    pointer = λ j l. fit.pointer j (omega (arith, l, h));
    left = λ j l. fit.left j (omega (arith, l, h));
    uses = none-earlier n k h keeps fit.uses;
  }
    where
      none-earlier : (n k : ℕ) → k ≤ n → KeepsTo n → NoUse (before start setup change n).events
          → NoUse (before start setup change k).events
      none-earlier zero zero h keeps none = none
      none-earlier zero (suc k) h keeps none = absurd (omega (arith, h))
      none-earlier (suc n) k h keeps none =
          elim (cases_eq k (suc n)) [
            | inl same ↦ subst (λ j. NoUse (before start setup change j).events) (sym same) none
            | inr less ↦
                none-earlier n k (omega arith) (λ j l. keeps j (omega arith))
                (subst NoUse (keeps n (omega arith)).events (fewer (at_step start setup change n) setup none))
          ]

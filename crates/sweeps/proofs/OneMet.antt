-- Each edit has one outcome and one number of steps.
use Rattle.std.proofs.Common.{◌≡◌, ℕ, ◌-◌, ◌<◌, Bool, List, [], ◌∷◌, map, refl, ap, sym, ◌∙◌, subst, inl, inr, arith}
use Rattle.std.proofs.lemmas.Bool.{cases_lt}
use Rattle.checkpoints.specs.Effects.{Run}
use Rattle.checkpoints.specs.Forks.{IsLastUnshown}
use Rattle.checkpoints.specs.declared.effect.Effect.{Effect}
use Rattle.replay_report.specs.Laws.{OutlineIsOne as TextIsOne}
use Rattle.scenario.specs.Edits.{row}
use Rattle.scenario.specs.Scenario.{Scenario, IsOutlineOf, chosen_state, run_of}
use Rattle.sweeps.specs.Laws.{MetAreOne, OutlineIsOne, StepsAreOne}
use Rattle.sweeps.specs.Outcomes.{Met, AreMet, IsOutcome, TakesSteps, edited}
use Rattle.sweep_plans.specs.Changes.{edit_of}

-- of two such steps none is the lower one
not-lower : (effect : Effect) (run : Run) (last a b : ℕ) → IsLastUnshown effect run last a
    → IsLastUnshown effect run last b → a < b → ⊥
not-lower effect run last a b first second less =
    let within = second.within in
    first.next (omega arith) (λ j below shows. second.hidden j (omega arith) shows)

last-is-one : (effect : Effect) (run : Run) (last a b : ℕ) → IsLastUnshown effect run last a
    → IsLastUnshown effect run last b → a ≡ b
last-is-one effect run last a b first second = elim (cases_lt a b) [
  | inl less ↦ absurd (not-lower effect run last a b first second less)
  | inr more ↦ (elim (cases_lt b a) [
    | inl less ↦ absurd (not-lower effect run last b a second first less)
    | inr same ↦ omega arith
  ])
]

pub steps-are-one : StepsAreOne
unfolding TakesSteps
steps-are-one sc change m n (a, first, is) (b, second, are) =
    let same = last-is-one (row sc (edit_of change)).effect (run_of sc) sc.step a b first second in
    is ∙ ap (λ k. sc.step - k) same ∙ sym are

pub outline-is-one : TextIsOne → OutlineIsOne
unfolding IsOutlineOf
outline-is-one law with_output sc xs ys g h =
    law (chosen_state sc) sc.image sc.rules sc.options with_output xs ys g h

module _ (law : OutlineIsOne) (with_output : Bool) (sc : Scenario) where
  one-met : (m n : Met) → m.change ≡ n.change → IsOutcome with_output sc m.change m.outcome
      → IsOutcome with_output sc n.change n.outcome → TakesSteps sc m.change m.steps → TakesSteps sc n.change n.steps
      → m ≡ n
  unfolding IsOutcome
  one-met m n change g h takes take =
      let outcome = law with_output (edited sc m.change) m.outcome n.outcome g
      (subst (λ c. IsOutlineOf with_output (edited sc c) n.outcome) (sym change) h) in
      let steps = steps-are-one sc m.change m.steps n.steps takes
      (subst (λ c. TakesSteps sc c n.steps) (sym change) take) in
      λ i. record { change = change i; outcome = outcome i; steps = steps i }

  met-are-one : (ms ns : List Met) → map (λ (m : Met). m.change) ms ≡ map (λ (m : Met). m.change) ns
      → AreMet with_output sc ms → AreMet with_output sc ns → ms ≡ ns
  met-are-one [] [] same g h = refl
  met-are-one [] (n ∷ ns) same g h = cc
  met-are-one (m ∷ ms) [] same g h = cc
  met-are-one (m ∷ ms) (n ∷ ns) same g h =
      let change : m.change ≡ n.change = cc in
      let changes : map (λ (m : Met). m.change) ms ≡ map (λ (m : Met). m.change) ns = cc in
      let here = one-met m n change g.0.0 h.0.0 g.0.1 h.0.1 in
      let rest = met-are-one ms ns changes g.1 h.1 in
      λ i. here i ∷ rest i

pub all-met-are-one : OutlineIsOne → MetAreOne
all-met-are-one law = met-are-one law

-- Skips whose outcomes are foreseen.
use Rattle.std.proofs.Common.{◌≡◌, ℕ, zero, suc, ◌+◌, ◌-◌, ◌*◌, ◌<◌, ◌≤◌, ◌==◌, ◌&&◌, Bool, true, false, cond}
use Rattle.std.proofs.Common.{nat_lt, List, [], ◌∷◌, ◌++◌, length, fold, Option, Some, None, is_some, is_none, inl, inr}
use Rattle.std.proofs.Common.{refl, ap, sym, subst, ◌∙◌, append-nil, arith}
use Rattle.std.specs.List.{slice_get}
use Rattle.std.proofs.lemmas.Bool.Decides.{nat_tests}
use Rattle.checkpoints.proofs.MarkSteps.{after-no_marks, made-until}
use Rattle.guest_elf.specs.Hooks.{hook_at}
use Rattle.guest_machine.specs.Alterations.{altered}
use Rattle.guest_machine.specs.Exec.{exec, is_running}
use Rattle.guest_machine.specs.Run.{after_marks, marks_at, post, pre}
use Rattle.guest_machine.specs.Shows.{Shows}
use Rattle.guest_machine.specs.State.{State}
use Rattle.guest_machine.specs.declared.machine.Machine.{Machine}
use Rattle.guest_machine.specs.declared.setup.Setup.{Setup}
use Rattle.run_values.specs.declared.alteration.Act.TheVariants as Acts
use Rattle.run_values.specs.declared.alteration.Alteration.{Alteration}
use Rattle.replay_report.specs.Outlines.{IsOutline}
use Rattle.scenario.specs.Scenario.{Scenario, IsOutlineOf, chosen_state, first_state}
use Rattle.sweep_plans.specs.declared.change.Change.TheVariants.{Once}
use Rattle.sweep_plans.specs.declared.change.Glitch.TheVariants.{Skip}
use Rattle.sweep_plans.specs.declared.request.Range.{Range}
use Rattle.sweep_plans.specs.declared.standing.Standing.{Standing}
use Rattle.sweep_plans.specs.declared.standing.Standing.TheVariants as At
use Rattle.sweeps.specs.Landmarks.{Follows, HoldsAnother, IsHeld, NoneFrom}
use Rattle.sweeps.specs.LoneSkips.{AreForeseen, IsLone, Joins, left_out, strikes, struck_pc}
use Rattle.sweeps.specs.Outcomes.{IsOutcome}
use Rattle.sweeps.specs.Standing.{is_half_next, is_in_code, is_struck, skipped, standing_step, state_before}
use Rattle.sweeps.specs.declared.landmarks.Landmarks.{Landmarks}
use Rattle.sweeps.specs.declared.lone_skips.LoneSkip.{LoneSkip}
use Rattle.sweeps.specs.declared.lone_skips.LoneSkips.{LoneSkips}
use Rattle.pruning.proofs.CourseSteps.{get-push, get-within}
use Rattle.sweeps.proofs.LandmarkSteps.{marks-more, quiet-on, same-held}

-- ---- the table

pub get-some : {X : Type 0} (xs : List X) (i : ℕ) → i < length xs → (x : X) × (slice_get xs i ≡ Some x)
get-some [] i less = absurd (omega arith)
get-some (x ∷ xs) zero less = (x, refl)
get-some (x ∷ xs) (suc i) less = get-some xs i (omega arith)

-- a machine is held before the step that has no row yet
pub foreseen-held : (with_output : Bool) (sc : Scenario) (skips : LoneSkips) (new : Landmarks)
    → new.first ≡ skips.landmarks.first → HoldsAnother skips.landmarks new
    → skips.landmarks.steps ≡ length skips.rows.items
    → AreForeseen with_output sc skips → AreForeseen with_output sc (record skips { landmarks = new })
unfolding AreForeseen
foreseen-held with_output sc skips new first another long foreseen i r held row there is later s shows =
    elim (another i held there) [
      | inl before ↦
          subst (λ f. IsLone with_output sc (pre s sc.setup [] (r - 16 * i)) (sc.step + 1 - (f + r)) row) (sym first)
          (foreseen i r held row before is later s shows)
      | inr last ↦
          let within = get-within skips.rows.items r row is in
          absurd (omega (arith, within, last, long, later))
    ]

-- no other one is held
pub foreseen-on : (with_output : Bool) (sc : Scenario) (skips : LoneSkips) (new : Landmarks)
    → new.first ≡ skips.landmarks.first → new.machines ≡ skips.landmarks.machines
    → AreForeseen with_output sc skips → AreForeseen with_output sc (record skips { landmarks = new })
unfolding AreForeseen
foreseen-on with_output sc skips new first same foreseen i r held row there is later s shows =
    subst (λ f. IsLone with_output sc (pre s sc.setup [] (r - 16 * i)) (sc.step + 1 - (f + r)) row) (sym first)
    (foreseen i r held row (same-held skips.landmarks new same i held there) is later s shows)

-- a row is added
pub foreseen-more : (with_output : Bool) (sc : Scenario) (old new : LoneSkips) (machine : Machine) (row : LoneSkip)
    (steps : ℕ) → new.landmarks ≡ old.landmarks → new.rows.items ≡ old.rows.items ++ row ∷ []
    → steps ≡ sc.step + 1 - (old.landmarks.first + length old.rows.items)
    → old.landmarks.steps ≡ length old.rows.items
    → ((s : State) → Shows machine s → IsLone with_output sc s steps row) → Follows sc.setup old.landmarks machine
    → AreForeseen with_output sc old → AreForeseen with_output sc new
unfolding AreForeseen
foreseen-more with_output sc old new machine row steps same more count long lone follows foreseen i r held found there
    is later s shows =
    let before = subst (λ (l : Landmarks). IsHeld l i held) same there in
    let at = λ (l : Landmarks). IsLone with_output sc (pre s sc.setup [] (r - 16 * i)) (sc.step + 1 - (l.first + r))
    found in
    subst at (sym same) (elim (get-push old.rows.items row found r (ap (λ xs. slice_get xs r) (sym more) ∙ is)) [
      | inl earlier ↦ foreseen i r held found before earlier later s shows
      | inr last ↦
          let size : length old.rows.items ≡ r = sym last.0 in
          let there-now = subst (λ n. Shows machine (pre s sc.setup [] (n - 16 * i))) (long ∙ size)
          (follows i held before s shows) in
          let number : steps ≡ sc.step + 1 - (old.landmarks.first + r) = count
          ∙ ap (λ n. sc.step + 1 - (old.landmarks.first + n)) size in
          subst (λ n. IsLone with_output sc (pre s sc.setup [] (r - 16 * i)) n found) number
          (subst (IsLone with_output sc (pre s sc.setup [] (r - 16 * i)) steps) last.1 (lone _ there-now))
    ])

-- ---- the run of a first skip

-- what the rows say of it
pub lone-there : (with_output : Bool) (now : Scenario) (skips : LoneSkips) (machine : Machine) (j end t : ℕ)
    (row : LoneSkip) → AreForeseen with_output now skips → Joins skips machine j end
    → Shows machine (state_before now j) → NoneFrom j now.marks → j ≤ t
    → slice_get skips.rows.items (t + 1 - skips.landmarks.first) ≡ Some row
    → IsLone with_output now (state_before now t) (now.step - t) row
unfolding AreForeseen
lone-there with_output now skips machine j end t row foreseen joins shows none from is =
    let meets = joins.meets in
    let later = meets.before in
    let r = t + 1 - skips.landmarks.first in
    let place : 16 * meets.place ≤ r = omega (arith, later, from) in
    let steps : r - 16 * meets.place ≡ t - j = omega (arith, later, from) in
    let left : now.step + 1 - (skips.landmarks.first + r) ≡ now.step - t = omega (arith, later, from) in
    let found = foreseen meets.place r meets.held row meets.there is place (state_before now j)
    (meets.shows (state_before now j) shows) in
    subst (λ s. IsLone with_output now s (now.step - t) row)
    (quiet-on (first_state now) now.setup now.marks j t none from)
    (subst (λ n. IsLone with_output now (pre (state_before now j) now.setup [] (t - j)) n row) left
    (subst (λ n. IsLone with_output now (pre (state_before now j) now.setup [] n)
    (now.step + 1 - (skips.landmarks.first + r)) row)
    steps found))

-- ---- the end of a run with one more skip

module _ (start : State) (setup : Setup) (marks : List Alteration) (t : ℕ) where
  abbrev skip-here : Alteration
  skip-here = record { step = t; act = Acts.Skip }

  abbrev all-marks : List Alteration
  all-marks = marks ++ skip-here ∷ []

  elsewhere : (k : ℕ) → (t == k) ≡ false → marks_at k all-marks ≡ marks_at k marks
  elsewhere k other =
      marks-more k marks skip-here ∙ ap (λ b. marks_at k marks ++ cond b (skip-here ∷ []) []) other
      ∙ append-nil (marks_at k marks)

  up-to : (k : ℕ) → k ≤ t → pre start setup all-marks k ≡ pre start setup marks k
  unfolding pre after_marks
  up-to zero below = refl
  up-to (suc k) below =
      let other : (t == k) ≡ false = grind (arith, nat_tests) in
      ap (λ ms. exec (fold altered (pre start setup all-marks k) ms) setup) (elsewhere k other)
      ∙ ap (λ s. exec (after_marks k marks s) setup) (up-to k (omega arith))

  at-skip : NoneFrom t marks
      → after_marks t all-marks (pre start setup all-marks t) ≡ left_out (pre start setup marks t)
  unfolding after_marks altered
  at-skip none =
      let same : (t == t) ≡ true = grind (arith, nat_tests) in
      ap (fold altered (pre start setup all-marks t))
      (marks-more t marks skip-here ∙ ap (λ b. marks_at t marks ++ cond b (skip-here ∷ []) []) same
      ∙ ap (λ ms. ms ++ skip-here ∷ []) (none t (omega arith)))
      ∙ ap left_out (up-to t (omega arith))

  none-behind : NoneFrom t marks → (k : ℕ) → t < k → marks_at k all-marks ≡ []
  none-behind none k past =
      let other : (t == k) ≡ false = grind (arith, nat_tests) in
      elsewhere k other ∙ none k (omega arith)

  pub skip-end : (last : ℕ) → t < last → NoneFrom t marks
      → post start setup all-marks last ≡ pre (left_out (pre start setup marks t)) setup [] (last - t)
  unfolding post
  skip-end last past none =
      after-no_marks last all-marks (pre start setup all-marks last) (none-behind none last past)
      ∙ made-until start setup all-marks t last (omega arith) (λ k low high. none-behind none k (omega arith))
      ∙ ap (λ s. pre s setup [] (last - t)) (at-skip none)

-- so a row has the outcome of the skip
pub lone-outcome : (with_output : Bool) (now : Scenario) (t : ℕ) (row : LoneSkip) → t < now.step → NoneFrom t now.marks
    → IsLone with_output now (state_before now t) (now.step - t) row
    → IsOutcome with_output now (Once t Skip) row.outcome
unfolding IsOutcome IsOutlineOf chosen_state first_state
lone-outcome with_output now t row below none lone =
    subst (λ s. IsOutline s now.image now.rules now.options with_output row.outcome)
    (sym (skip-end (first_state now) now.setup now.marks t now.step below none)) lone.1

-- ---- where it strikes

strikes-where : (runs in-code free : Bool) (code : Option Range) (pc : ℕ) → is_in_code code pc ≡ in-code
    → strikes code (cond (runs && free) (Some pc) None) ≡ (runs && (in-code && free))
strikes-where true true true code pc e = e
strikes-where true false true code pc e = e
strikes-where true true false code pc e = refl
strikes-where true false false code pc e = refl
strikes-where false in-code free code pc e = refl

stands-where : (now : Scenario) (code : Option Range) (t : ℕ) → t < now.step
    → is_some (standing_step now code t) ≡ is_struck now.setup.hooks code (state_before now t).core
unfolding standing_step
stands-where now code t below =
    let test : nat_lt t now.step ≡ true = grind (arith, nat_tests) in
    go (nat_lt t now.step) (is_struck now.setup.hooks code (state_before now t).core)
    (At.Step t (state_before now t).core.pc (is_half_next (state_before now t))) test
  where
    go : (b c : Bool) (there : Standing) → b ≡ true → is_some (cond (b && c) (Some there) None) ≡ c
    go true true there e = refl
    go true false there e = refl
    go false c there e = cc

pub lone-strikes : (now : Scenario) (code : Option Range) (t : ℕ) (row : LoneSkip) → t < now.step
    → row.pc ≡ struck_pc now.setup.hooks (state_before now t).core
    → is_some (standing_step now code t) ≡ strikes code row.pc
lone-strikes now code t row below is =
    let core = (state_before now t).core in
    stands-where now code t below
    ∙ sym (ap (strikes code) is ∙ strikes-where (is_running core.status) (is_in_code code core.pc)
    (is_none (hook_at now.setup.hooks core.pc)) code core.pc refl)

-- nothing is foreseen without rows
pub none-foreseen : (with_output : Bool) (sc : Scenario) (skips : LoneSkips) → skips.rows.items ≡ []
    → AreForeseen with_output sc skips
unfolding AreForeseen
none-foreseen with_output sc skips none i r held row there is later s shows =
    absurd (never r (ap (λ xs. slice_get xs r) (sym none) ∙ is))
  where
    never : (r : ℕ) → slice_get [] r ≡ Some row → ⊥
    never r e = cc

-- what is known of a later step of the run of a first skip
pub lone-facts : (with_output : Bool) (sc now : Scenario) (step : ℕ) (skips : LoneSkips) (machine : Machine)
    (j end t : ℕ) (code : Option Range) (row : LoneSkip) → now ≡ skipped sc step → AreForeseen with_output sc skips
    → Joins skips machine j end → Shows machine (state_before now j) → NoneFrom j now.marks → j ≤ t → t < now.step
    → slice_get skips.rows.items (t + 1 - skips.landmarks.first) ≡ Some row
    → (is_some (standing_step now code t) ≡ strikes code row.pc) × IsOutcome with_output now (Once t Skip) row.outcome
unfolding AreForeseen
lone-facts with_output sc now step skips machine j end t code row left foreseen joins shows none from below is =
    let here = subst (λ (s : Scenario). AreForeseen with_output s skips) (sym left) foreseen in
    let lone = lone-there with_output now skips machine j end t row here joins shows none from is in (
      lone-strikes now code t row below lone.0,
      lone-outcome with_output now t row below (λ k low. none k (omega arith)) lone,
    )

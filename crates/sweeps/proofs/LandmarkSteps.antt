-- Machines that are held along a run, and runs that meet it.
use Rattle.std.proofs.Common.{◌≡◌, ◌⊎◌, ℕ, ◌+◌, ◌-◌, ◌*◌, ◌/◌, ◌<◌, ◌≤◌, ◌==◌, Bool, true, false, cond}
use Rattle.std.proofs.Common.{List, [], ◌∷◌, ◌++◌, length, Some, inl, inr, refl, ap, sym, subst, ◌∙◌, append-nil, arith}
use Rattle.std.specs.List.{slice_get}
use Rattle.std.proofs.lemmas.Bool.{cases_lt}
use Rattle.std.proofs.lemmas.Bool.Decides.{nat_tests}
use Rattle.std.proofs.Math.Path.{transport}
use Rattle.checkpoints.specs.Effects.{LeadsTo, Run}
use Rattle.checkpoints.specs.Forks.{IsForkFor, ShowsEdited}
use Rattle.checkpoints.specs.declared.effect.Effect.{Effect}
use Rattle.checkpoints.specs.declared.forks.Fork.{Fork}
use Rattle.checkpoints.proofs.MarkSteps.{after-no_marks, made-until}
use Rattle.pruning.proofs.ApartSteps.{steps-on}
use Rattle.pruning.proofs.CourseSteps.{get-push}
use Rattle.guest_machine.specs.Run.{marks_at, post, pre}
use Rattle.guest_machine.specs.Shows.{Shows}
use Rattle.guest_machine.specs.State.{State}
use Rattle.guest_machine.specs.declared.machine.Machine.{Machine}
use Rattle.guest_machine.specs.declared.setup.Setup.{Setup}
use Rattle.run_values.specs.declared.alteration.Alteration.{Alteration}
use Rattle.scenario.specs.Edits.{row}
use Rattle.scenario.specs.Scenario.{Scenario, IsOutlineOf, chosen_state, first_state}
use Rattle.sweep_plans.specs.Changes.{act_of, glitch_edit}
use Rattle.sweep_plans.specs.declared.change.Glitch.{Glitch}
use Rattle.sweeps.specs.Landmarks.{AreEnds, AreSpaced, EndsIn, Follows, HoldsAnother, IsHeld, Meets, NoneFrom}
use Rattle.sweeps.specs.Landmarks.{Outlines}
use Rattle.sweeps.specs.Standing.{state_before}
use Rattle.sweeps.specs.declared.endings.Ends.{Ends}
use Rattle.sweeps.specs.declared.landmarks.Landmarks.{Landmarks}

-- ---- states

pub shows-first : (setup : Setup) (machine : Machine) (from : ℕ) (s : State) → Shows machine s
    → Shows machine (pre s setup [] (from - from))
unfolding pre
shows-first setup machine from s shows =
    let none : from - from ≡ 0 = omega arith in
    subst (λ n. Shows machine (pre s setup [] n)) (sym none) shows

pub shows-on : (setup given : Setup) (machine now next : Machine) (from at later : ℕ) → given ≡ setup → from ≤ at
    → at ≤ later → ((s : State) → Shows machine s → Shows now (pre s setup [] (at - from)))
    → ((s : State) → Shows now s → Shows next (pre s given [] (later - at)))
    → (s : State) → Shows machine s → Shows next (pre s setup [] (later - from))
shows-on setup given machine now next from at later same low high before on s shows =
    let count : later - from ≡ at - from + (later - at) = omega (arith, low, high) in
    subst (Shows next) (steps-on s setup (at - from) (later - at) (later - from) count)
    (subst (λ (g : Setup). Shows next (pre (pre s setup [] (at - from)) g [] (later - at))) same
    (on _ (before s shows)))

-- without alterations from a step on, the run goes on from its state
pub quiet-on : (start : State) (setup : Setup) (marks : List Alteration) (j t : ℕ) → NoneFrom j marks → j ≤ t
    → pre (pre start setup marks j) setup [] (t - j) ≡ pre start setup marks t
unfolding pre
quiet-on start setup marks j t none from = elim (cases_lt j t) [
  | inl less ↦
      ap (λ s. pre s setup [] (t - j)) (sym (after-no_marks j marks (pre start setup marks j) (none j (omega arith))))
      ∙ sym (made-until start setup marks j t (omega arith) (λ k low high. none k (omega arith)))
  | inr same ↦
      let e : t ≡ j = omega arith in
      let zero-steps : t - j ≡ 0 = omega arith in
      ap (pre (pre start setup marks j) setup []) zero-steps ∙ ap (pre start setup marks) (sym e)
]

-- nor after a step
pub quiet-behind : (start : State) (setup : Setup) (marks : List Alteration) (j t : ℕ) → NoneFrom (j + 1) marks → j ≤ t
    → pre (post start setup marks j) setup [] (t - j) ≡ post start setup marks t
unfolding pre post
quiet-behind start setup marks j t none from = elim (cases_lt j t) [
  | inl less ↦
      sym (made-until start setup marks j t (omega arith) (λ k low high. none k (omega arith)))
      ∙ sym (after-no_marks t marks (pre start setup marks t) (none t (omega arith)))
  | inr same ↦
      let e : t ≡ j = omega arith in
      let zero-steps : t - j ≡ 0 = omega arith in
      ap (pre (post start setup marks j) setup []) zero-steps ∙ ap (post start setup marks) (sym e)
]

-- one alteration, not after a step
pub one-before : (m : Alteration) (step : ℕ) → m.step ≤ step → NoneFrom (step + 1) (m ∷ [])
one-before m step before k later = ap (λ b. cond b (m ∷ []) []) (apart (m.step) k (omega arith))
  where
    apart : (x y : ℕ) → x < y → (x == y) ≡ false
    apart x y less = grind (arith, nat_tests)

pub marks-more : (k : ℕ) (marks : List Alteration) (m : Alteration)
    → marks_at k (marks ++ m ∷ []) ≡ marks_at k marks ++ cond (m.step == k) (m ∷ []) []
marks-more k [] m = refl
marks-more k (x ∷ xs) m = go (x.step == k) (marks-more k xs m)
  where
    go : (b : Bool) → marks_at k (xs ++ m ∷ []) ≡ marks_at k xs ++ cond (m.step == k) (m ∷ []) []
        → cond b (x ∷ marks_at k (xs ++ m ∷ [])) (marks_at k (xs ++ m ∷ []))
        ≡ cond b (x ∷ marks_at k xs) (marks_at k xs) ++ cond (m.step == k) (m ∷ []) []
    go true rest = ap (λ ms. x ∷ ms) rest
    go false rest = rest

-- the run of a glitch has no alteration after it
pub quiet-after : (sc : Scenario) (step : ℕ) (glitch : Glitch) → sc.marks ≡ []
    → NoneFrom (step + 1) (row sc (glitch_edit step glitch)).after.marks
quiet-after sc step glitch unmarked k low =
    let m : Alteration = record { step = step; act = act_of glitch } in
    let other : (step == k) ≡ false = grind (arith, nat_tests) in
    marks-more k sc.marks m ∙ ap (λ b. marks_at k sc.marks ++ cond b (m ∷ []) []) other
    ∙ append-nil (marks_at k sc.marks)
    ∙ ap (marks_at k) unmarked

-- ---- machines that are held

pub none-spaced : (landmarks : Landmarks) → landmarks.machines.items ≡ [] → AreSpaced landmarks
none-spaced landmarks none i held there = absurd (never i (ap (λ ms. slice_get ms i) (sym none) ∙ there))
  where
    never : (i : ℕ) → slice_get [] i ≡ Some held → ⊥
    never i e = cc

pub none-follow : (setup : Setup) (landmarks : Landmarks) (machine : Machine) → landmarks.machines.items ≡ []
    → Follows setup landmarks machine
none-follow setup landmarks machine none i held there =
    absurd (never i (ap (λ ms. slice_get ms i) (sym none) ∙ there))
  where
    never : (i : ℕ) → slice_get [] i ≡ Some held → ⊥
    never i e = cc

-- another one is held where the run has come
module _ (old new : Landmarks) (machine : Machine) (more : new.machines.items ≡ old.machines.items ++ machine ∷ [])
    (same : new.steps ≡ old.steps) (long : old.steps ≡ 16 * length old.machines.items) where
  place-of : (i : ℕ) (held : Machine) → IsHeld new i held
      → IsHeld old i held ⊎ ((i ≡ length old.machines.items) × (machine ≡ held))
  place-of i held there =
      get-push old.machines.items machine held i (ap (λ ms. slice_get ms i) (sym more) ∙ there)

  pub held-another : HoldsAnother old new
  held-another i held there = elim (place-of i held there) [
    | inl before ↦ inl before
    | inr last ↦ let place = last.0 in inr (omega (arith, long, place))
  ]

  pub held-spaced : AreSpaced old → AreSpaced new
  held-spaced spaced i held there = elim (place-of i held there) [
    | inl before ↦ let low = spaced i held before in omega (arith, same, low)
    | inr last ↦ let place = last.0 in omega (arith, same, long, place)
  ]

  pub held-follows : (setup : Setup) (next : Machine) → ((s : State) → Shows machine s → Shows next s)
      → Follows setup old machine → Follows setup new next
  unfolding pre
  held-follows setup next on follows i held there s shows = elim (place-of i held there) [
    | inl before ↦
        subst (λ k. Shows next (pre s setup [] (k - 16 * i))) (sym same) (on _ (follows i held before s shows))
    | inr last ↦
        let place = last.0 in
        let none : new.steps - 16 * i ≡ 0 = omega (arith, same, long, place) in
        subst (λ k. Shows next (pre s setup [] k)) (sym none)
        (on s (subst (λ (m : Machine). Shows m s) (sym last.1) shows))
  ]

pub same-held : (old new : Landmarks) → new.machines ≡ old.machines → (i : ℕ) (held : Machine) → IsHeld new i held
    → IsHeld old i held
same-held old new same i held there = subst (λ ms. slice_get ms.items i ≡ Some held) same there

-- the run goes on
pub spaced-on : (old new : Landmarks) (n : ℕ) → new.machines ≡ old.machines → new.steps ≡ old.steps + n
    → AreSpaced old → AreSpaced new
spaced-on old new n same long spaced i held there =
    let low = spaced i held (same-held old new same i held there) in
    omega (arith, long, low)

pub follows-on : (setup : Setup) (old new : Landmarks) (machine next : Machine) (n : ℕ) → new.machines ≡ old.machines
    → new.steps ≡ old.steps + n → ((s : State) → Shows machine s → Shows next (pre s setup [] n)) → AreSpaced old
    → Follows setup old machine → Follows setup new next
follows-on setup old new machine next n same long on spaced follows i held there s shows =
    let before = same-held old new same i held there in
    let low = spaced i held before in
    let count : new.steps - 16 * i ≡ old.steps - 16 * i + n = omega (arith, long, low) in
    subst (Shows next) (steps-on s setup (old.steps - 16 * i) n (new.steps - 16 * i) count)
    (on _ (follows i held before s shows))

-- ---- the outcome of the unedited run

pub all-steps : (last first step count begun held all : ℕ) → step ≡ last → count ≤ (step - first) / 16 → begun ≡ 0
    → held ≤ begun + 16 * count → all ≡ held + (step - first - held) → all ≡ last - first
all-steps last first step count begun held all is few none some rest =
    let below : 16 * count ≤ step - first = omega (arith, few) in
    omega (arith, is, none, some, rest, below)

pub ends-in : (with_output : Bool) (sc : Scenario) (landmarks : Landmarks) (machine : Machine) (lead : ℕ)
    (text : List ℕ) → landmarks.steps ≡ sc.step + lead - landmarks.first → Follows sc.setup landmarks machine
    → ((s : State) → Shows machine s → Outlines with_output sc s text) → EndsIn with_output sc landmarks lead text
unfolding EndsIn
ends-in with_output sc landmarks machine lead text count follows told i held there s shows =
    let n : landmarks.steps - 16 * i ≡ sc.step + lead - (landmarks.first + 16 * i) = omega (arith, count) in
    told _ (subst (λ k. Shows machine (pre s sc.setup [] k)) n (follows i held there s shows))

-- and that of one more step
pub ends-after : (with_output : Bool) (sc : Scenario) (landmarks : Landmarks) (machine next : Machine) (text : List ℕ)
    → landmarks.first ≤ sc.step → landmarks.steps ≡ sc.step - landmarks.first → AreSpaced landmarks
    → Follows sc.setup landmarks machine → ((s : State) → Shows machine s → Shows next (pre s sc.setup [] 1))
    → ((s : State) → Shows next s → Outlines with_output sc s text) → EndsIn with_output sc landmarks 1 text
unfolding EndsIn
ends-after with_output sc landmarks machine next text low count spaced follows on told =
    let later : Landmarks = record landmarks { steps = landmarks.steps + 1 } in
    let n : landmarks.steps + 1 ≡ sc.step + 1 - landmarks.first = omega (arith, low, count) in
    ends-in with_output sc later next 1 text n
    (follows-on sc.setup landmarks later machine next 1 refl refl on spaced follows) told

-- a run that meets the unedited one ends as that does
pub met-end : (with_output : Bool) (sc : Scenario) (landmarks : Landmarks) (machine : Machine) (lead from at : ℕ)
    (text : List ℕ) (s : State) → EndsIn with_output sc landmarks lead text → Meets landmarks machine (at + lead)
    → from ≤ at → at ≤ sc.step → Shows machine (pre s sc.setup [] (at - from))
    → Outlines with_output sc (pre s sc.setup [] (sc.step - from)) text
unfolding EndsIn
met-end with_output sc landmarks machine lead from at text s ends meets low high shows =
    let before = meets.before in
    let left : sc.step + lead - (landmarks.first + 16 * meets.place) ≡ sc.step - at = omega (arith, before, high) in
    let all : sc.step - from ≡ at - from + (sc.step - at) = omega (arith, low, high) in
    subst (λ t. Outlines with_output sc t text) (steps-on s sc.setup (at - from) (sc.step - at) (sc.step - from) all)
    (subst (λ n. Outlines with_output sc (pre (pre s sc.setup [] (at - from)) sc.setup [] n) text) left
    (ends meets.place meets.held meets.there _ (meets.shows _ shows)))

-- the outline of a scenario that is altered only before a step
pub outline-behind : (with_output : Bool) (now : Scenario) (from : ℕ) (text : List ℕ) → NoneFrom from now.marks
    → from ≤ now.step
    → Outlines with_output now (pre (state_before now from) now.setup [] (now.step - from)) text
    → IsOutlineOf with_output now text
unfolding IsOutlineOf chosen_state post
outline-behind with_output now from text none within told =
    subst (λ s. Outlines with_output now s text)
    (quiet-on (first_state now) now.setup now.marks from now.step none within
    ∙ sym (after-no_marks now.step now.marks (pre (first_state now) now.setup now.marks now.step)
    (none now.step within))) told

-- what ends a run ends it in a scenario that differs in marks
pub ends-struck : (with_output : Bool) (sc now : Scenario) (step : ℕ) (glitch : Glitch) (ends : Ends)
    → now ≡ (row sc (glitch_edit step glitch)).after → AreEnds with_output sc ends → AreEnds with_output now ends
unfolding EndsIn
ends-struck with_output sc now step glitch ends left are =
    subst (λ (s : Scenario). AreEnds with_output s ends) (sym left) are

-- a run that goes on from the fork's step of an edited run, after which nothing is altered
pub goes-behind : (effect : Effect) (one : Run) (start : State) (fork : Fork) (sc : Scenario) (setup : Setup)
    (marks : List Alteration) (step last : ℕ) (begun machine : Machine)
    → setup ≡ sc.setup → marks ≡ sc.marks → step ≡ sc.step → fork.step ≤ sc.step → NoneFrom (fork.step + 1) sc.marks
    → ShowsEdited effect fork setup marks last fork.step begun
    → ((s : State) → Shows begun s → Shows machine (pre s setup [] (step - fork.step)))
    → LeadsTo effect one (record { start = start; setup = sc.setup; marks = sc.marks })
    → IsForkFor effect one last fork → Shows machine (post start sc.setup sc.marks sc.step)
goes-behind effect one start fork sc setup marks step last begun machine given marked chosen within none shows on leads
    is =
    let first = shows one start (transport
    (λ i. LeadsTo effect one (record { start = start; setup = sym given i; marks = sym marked i })) leads) is in
    subst (Shows machine) (quiet-behind start sc.setup sc.marks fork.step sc.step none within)
    (transport (λ i. Shows machine (pre (post start (given i) (marked i) fork.step) (given i) []
    (chosen i - fork.step))) (on _ first))

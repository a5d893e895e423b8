-- A course that another step prolongs.
use Rattle.std.proofs.Common.{◌≡◌, ◌⊎◌, inl, inr, ℕ, zero, suc, ◌+◌, ◌*◌, ◌<◌, List, [], ◌∷◌, ◌++◌}
use Rattle.std.proofs.Common.{length, Some, ap, refl, sym, ◌∙◌, subst, arith}
use Rattle.std.specs.List.{slice_get}
use Rattle.std.proofs.lemmas.Option.{same_Some}
use Rattle.guest_machine.specs.State.{State}
use Rattle.guest_machine.specs.Exec.{exec}
use Rattle.guest_machine.specs.Run.{pre, after_marks}
use Rattle.guest_machine.specs.Shows.{Shows}
use Rattle.guest_machine.specs.declared.machine.Machine.{Machine}
use Rattle.guest_machine.specs.declared.setup.Setup.{Setup}
use Rattle.pruning.specs.Courses.{IsCourse, LeadsOn}
use Rattle.pruning.specs.Touches.{TellsAll, TellsStep}

pub none-yet : (s : State) (setup : Setup) → pre s setup [] 0 ≡ s
unfolding pre
none-yet s setup = refl

pub one-more : (s : State) (setup : Setup) (n : ℕ) → pre s setup [] (suc n) ≡ exec (pre s setup [] n) setup
unfolding pre after_marks
one-more s setup n = refl

-- a machine shows its own states
pub leads-nowhere : (keys : List ℕ) (setup : Setup) (from : ℕ) (one : Machine) → LeadsOn keys setup from 0 one one
leads-nowhere keys setup from one s h =
    (subst (Shows one) (sym (none-yet s setup)) h, λ j less. absurd (omega (arith, less)))

last-or-before : (j n : ℕ) → j < n + 1 → (j < n) ⊎ (j ≡ n)
last-or-before j n h = grind arith

-- another step, of which a longer list tells
pub leads-more : (keys more : List ℕ) (setup : Setup) (from n : ℕ) (one last next : Machine) → TellsAll keys more
    → LeadsOn keys setup from n one last
    → ((s : State) → Shows last s → Shows next (exec s setup) × TellsStep more setup s (from + n))
    → LeadsOn more setup from (n + 1) one next
leads-more keys more setup from n one last next all old step s h =
    let before = old s h in
    let there = step (pre s setup [] n) before.0 in
    let count : n + 1 ≡ suc n = omega arith in (
      subst (Shows next) (sym (ap (pre s setup []) count ∙ one-more s setup n)) there.0,
      λ j less. go before.1 there.1 j (last-or-before j n less),
    )
  where
    go : ((j : ℕ) → j < n → TellsStep keys setup (pre s setup [] j) (from + j))
        → TellsStep more setup (pre s setup [] n) (from + n)
        → (j : ℕ) → (j < n) ⊎ (j ≡ n) → TellsStep more setup (pre s setup [] j) (from + j)
    go told now j (inl less) = λ a touched. all _ _ (told j less a touched)
    go told now j (inr same) = subst (λ k. TellsStep more setup (pre s setup [] k) (from + k)) (sym same) now

-- what a longer list tells
pub leads-told : (keys more : List ℕ) (setup : Setup) (from n : ℕ) (one next : Machine) → TellsAll keys more
    → LeadsOn keys setup from n one next → LeadsOn more setup from n one next
leads-told keys more setup from n one next all h s shown =
    let told = h s shown in (told.0, λ j less a touched. all _ _ (told.1 j less a touched))

pub course-told : (keys more : List ℕ) (setup : Setup) (apart : ℕ) (machines : List Machine) → TellsAll keys more
    → IsCourse keys setup apart machines → IsCourse more setup apart machines
course-told keys more setup apart machines all h i one next here after =
    leads-told keys more setup (apart * i) apart one next all (h i one next here after)

-- ---- a list that gets longer

pub get-push : {X : Type 0} (xs : List X) (y z : X) (i : ℕ) → slice_get (xs ++ y ∷ []) i ≡ Some z
    → (slice_get xs i ≡ Some z) ⊎ ((i ≡ length xs) × (y ≡ z))
get-push [] y z zero h = inr (refl, same_Some y z h)
get-push [] y z (suc i) h = cc
get-push (x ∷ xs) y z zero h = inl h
get-push (x ∷ xs) y z (suc i) h = go (get-push xs y z i h)
  where
    go : (slice_get xs i ≡ Some z) ⊎ ((i ≡ length xs) × (y ≡ z))
        → (slice_get xs i ≡ Some z) ⊎ ((suc i ≡ suc (length xs)) × (y ≡ z))
    go (inl there) = inl there
    go (inr last) = inr (ap suc last.0, last.1)

pub get-within : {X : Type 0} (xs : List X) (i : ℕ) (z : X) → slice_get xs i ≡ Some z → i < length xs
get-within [] i z h = cc
get-within (x ∷ xs) zero z h = omega arith
get-within (x ∷ xs) (suc i) z h = let less = get-within xs i z h in omega arith

-- the last machine of a course, where its run has come
abbrev pub GoesOn : List Machine → ℕ → Machine → Type 0
GoesOn machines place machine =
    (last : Machine) → slice_get machines place ≡ Some last → (s : State) → Shows last s → Shows machine s

pub begins : (first machine : Machine) → ((s : State) → Shows first s → Shows machine s) → GoesOn (first ∷ []) 0 machine
begins first machine h last is s shown =
    h s (subst (λ m. Shows m s) (sym (same_Some first last is)) shown)

pub one-machine : (keys : List ℕ) (setup : Setup) (apart : ℕ) (first : Machine)
    → IsCourse keys setup apart (first ∷ [])
one-machine keys setup apart first i one next here after = cc

-- another machine, to which the last one leads
pub course-more : (keys more : List ℕ) (setup : Setup) (apart place : ℕ) (machines : List Machine)
    (machine next : Machine) → length machines ≡ place + 1 → TellsAll keys more
    → IsCourse keys setup apart machines → GoesOn machines place machine
    → LeadsOn more setup (apart * place) apart machine next
    → IsCourse more setup apart (machines ++ next ∷ [])
course-more keys more setup apart place machines machine next count all course last leads i one after here there =
    go (get-push machines next one i here) (get-push machines next after (suc i) there)
  where
    go : (slice_get machines i ≡ Some one) ⊎ ((i ≡ length machines) × (next ≡ one))
        → (slice_get machines (suc i) ≡ Some after) ⊎ ((suc i ≡ length machines) × (next ≡ after))
        → LeadsOn more setup (apart * i) apart one after
    go (inl h) (inl k) = leads-told keys more setup (apart * i) apart one after all (course i one after h k)
    go (inl h) (inr k) =
        let same : i ≡ place = omega (arith, k.0) in
        let held : slice_get machines place ≡ Some one = ap (slice_get machines) (sym same) ∙ h in
        subst (λ p. LeadsOn more setup (apart * p) apart one after) (sym same)
        (subst (λ m. LeadsOn more setup (apart * place) apart one m) k.1
        (λ s shown. leads s (last one held s shown)))
    go (inr h) (inl k) = let less = get-within machines (suc i) after k in absurd (omega (arith, h.0))
    go (inr h) (inr k) = absurd (omega (arith, h.0, k.0))

pub goes-on : (machines : List Machine) (place : ℕ) (next machine : Machine) → length machines ≡ place + 1
    → ((s : State) → Shows next s → Shows machine s) → GoesOn (machines ++ next ∷ []) (place + 1) machine
goes-on machines place next machine count h last is s shown = go (get-push machines next last (place + 1) is)
  where
    go : (slice_get machines (place + 1) ≡ Some last) ⊎ ((place + 1 ≡ length machines) × (next ≡ last))
        → Shows machine s
    go (inl k) = let less = get-within machines (place + 1) last k in absurd (omega arith)
    go (inr k) = h s (subst (λ m. Shows m s) (sym k.1) shown)

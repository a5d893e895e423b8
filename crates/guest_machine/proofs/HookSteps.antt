-- Where a search finds the function at an address.
use Rattle.std.proofs.Common.{◌≡◌, ◌⊎◌, inl, inr, ℕ, zero, suc, ◌+◌, ◌<◌, ◌≤◌, ◌==◌, Bool, true, false, cond, refl, ap}
use Rattle.std.proofs.Common.{sym, subst, ◌∙◌, slice_index_or, slice_set, List}
use Rattle.std.proofs.Common.{[], ◌∷◌, get_or, length, Some, None, arith}
use Rattle.std.proofs.lemmas.Bool.Decides.{nat_tests}
use Rattle.std.proofs.lemmas.Bool.{true≢false}
use Rattle.std.proofs.lemmas.List.{get_or_default, get_or-set_same, get_or-set_other}
use Rattle.std.specs.List.Sorted.{IsNonDecreasingBy}
use Rattle.guest_elf.specs.declared.hook.Hook.{Hook}
use Rattle.guest_elf.specs.Hooks.{hook_at}
use Rattle.guest_machine.specs.Sieve.{slot_of, AreMarked}

same-number : (m n : ℕ) → m ≡ n → (m == n) ≡ true
same-number m n e = grind (arith, nat_tests)

other-number : (m n : ℕ) → (m ≡ n → ⊥) → (m == n) ≡ false
other-number m n apart = grind (arith, nat_tests)

split : (k i : ℕ) → (k < i) ⊎ (i ≤ k)
split k i = grind arith

-- none has the address
pub hook_absent : (hooks : List (ℕ × Hook)) (a : ℕ)
    → ((k : ℕ) (d : ℕ × Hook) → k < length hooks → (get_or hooks k d).0 ≡ a → ⊥) → hook_at hooks a ≡ None
unfolding hook_at
hook_absent [] a none = refl
hook_absent (h ∷ hs) a none =
    ap (λ b. cond b (Some h.1) (hook_at hs a)) (other-number h.0 a (none zero h (omega arith)))
    ∙ hook_absent hs a (λ k d less. none (suc k) d (omega arith))

-- the first that has it
pub hook_found : (hooks : List (ℕ × Hook)) (a i : ℕ) (d : ℕ × Hook) → i < length hooks
    → ((k : ℕ) (e : ℕ × Hook) → k < i → (get_or hooks k e).0 ≡ a → ⊥)
    → (get_or hooks i d).0 ≡ a → hook_at hooks a ≡ Some (get_or hooks i d).1
unfolding hook_at
hook_found [] a i d within before here = absurd (omega arith)
hook_found (h ∷ hs) a zero d within before here = ap (λ b. cond b (Some h.1) (hook_at hs a)) (same-number h.0 a here)
hook_found (h ∷ hs) a (suc i) d within before here =
    ap (λ b. cond b (Some h.1) (hook_at hs a)) (other-number h.0 a (before zero h (omega arith)))
    ∙ hook_found hs a i d (omega arith) (λ k e less. before (suc k) e (omega arith)) here

-- the same of the entry at a place that those before are below
pub hook_got : (hooks : List (ℕ × Hook)) (a i : ℕ) (e : ℕ × Hook) → i < length hooks → e ≡ get_or hooks i e
    → ((k : ℕ) (d : ℕ × Hook) → k < i → (get_or hooks k d).0 < a)
    → e.0 ≡ a → Some e.1 ≡ hook_at hooks a
hook_got hooks a i e within same before here =
    let first = hook_found hooks a i e within (λ k d less equal. let lower = before k d less in
    omega (arith, lower, equal)) (ap (λ (entry : ℕ × Hook). entry.0) (sym same) ∙ here) in
    sym (first ∙ ap (λ (entry : ℕ × Hook). Some entry.1) (sym same))

-- none is there where the sieve has no mark
pub hook_unmarked : (hooks : List (ℕ × Hook)) (sieve : List Bool) (a : ℕ) → AreMarked sieve hooks (length hooks)
    → slice_index_or sieve (slot_of a) false ≡ false → hook_at hooks a ≡ None
hook_unmarked hooks sieve a marked none = hook_absent hooks a go
  where
    go : (k : ℕ) (e : ℕ × Hook) → k < length hooks → (get_or hooks k e).0 ≡ a → ⊥
    go k e less same =
        true≢false (sym (ap (λ b. slice_index_or sieve (slot_of b) false) (sym same) ∙ marked k e less) ∙ none)

-- another mark keeps those that are there
mark-kept : (sieve : List Bool) (i j : ℕ) → i < length sieve → (i ≡ j) ⊎ (i ≡ j → ⊥)
    → slice_index_or sieve j false ≡ true → slice_index_or (slice_set sieve i true) j false ≡ true
mark-kept sieve i j within (inl same) old =
    subst (λ n. slice_index_or (slice_set sieve i true) n false ≡ true) same (get_or-set_same sieve i true false within)
mark-kept sieve i j within (inr apart) old = get_or-set_other sieve i j true false (λ e. apart (sym e)) ∙ old

same-or-not : (i j : ℕ) → (i ≡ j) ⊎ (i ≡ j → ⊥)
same-or-not i j = grind arith

-- the mark of another function
pub marked_more : (sieve : List Bool) (hooks : List (ℕ × Hook)) (i slot : ℕ) (e : ℕ × Hook) → slot < length sieve
    → i < length hooks → slot ≡ slot_of (get_or hooks i e).0 → AreMarked sieve hooks i
    → AreMarked (slice_set sieve slot true) hooks (i + 1)
marked_more sieve hooks i slot e within inside is marked k d below = go (split k i)
  where
    go : (k < i) ⊎ (i ≤ k) → slice_index_or (slice_set sieve slot true) (slot_of (get_or hooks k d).0) false ≡ true
    go (inl less) = mark-kept sieve slot (slot_of (get_or hooks k d).0) within (same-or-not _ _) (marked k d less)
    go (inr more) =
        let last : i ≡ k = omega arith in
        let there : get_or hooks i e ≡ get_or hooks k d = get_or_default hooks i e d inside
        ∙ ap (λ n. get_or hooks n d) last in
        let same : slot ≡ slot_of (get_or hooks k d).0 = is ∙ ap (λ (entry : ℕ × Hook). slot_of entry.0) there in
        subst (λ n. slice_index_or (slice_set sieve slot true) n false ≡ true) same
        (get_or-set_same sieve slot true false within)

-- none is there where those before a place are below it, and the one at the place above
pub hook_passed : (hooks : List (ℕ × Hook)) (a i : ℕ) (d : ℕ × Hook)
    → IsNonDecreasingBy (λ (entry : ℕ × Hook). entry.0) hooks
    → ((k : ℕ) (e : ℕ × Hook) → k < i → (get_or hooks k e).0 < a)
    → i < length hooks → a ≤ (get_or hooks i d).0 → ((get_or hooks i d).0 ≡ a → ⊥) → hook_at hooks a ≡ None
hook_passed hooks a i d rising before within above apart = hook_absent hooks a go
  where
    go : (k : ℕ) (e : ℕ × Hook) → k < length hooks → (get_or hooks k e).0 ≡ a → ⊥
    go k e less same = elim (split k i) [
      | inl low ↦ let first = before k e low in omega (arith, first, same)
      | inr high ↦
          let later = rising i k e high less in
          let here : (get_or hooks i d).0 ≡ (get_or hooks i e).0 = ap (λ (entry : ℕ × Hook). entry.0)
          (get_or_default hooks i d e within) in
          apart (omega (arith, later, here, same, above))
    ]

-- and none where all are below it
pub hook_past : (hooks : List (ℕ × Hook)) (a i : ℕ) → ((k : ℕ) (e : ℕ × Hook) → k < i → (get_or hooks k e).0 < a)
    → length hooks ≤ i → hook_at hooks a ≡ None
hook_past hooks a i before all =
    hook_absent hooks a (λ k e less same. let first = before k e (omega arith) in omega (arith, first, same))

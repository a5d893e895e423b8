-- How many bytes a call moves.
use Rattle.std.proofs.Common.{◌≡◌, ℕ, suc, zero, ◌+◌, ◌-◌, ◌%◌, ◌^◌, ◌<◌, ◌≤◌, ◌||◌, Bool, true, false, not, cond}
use Rattle.std.proofs.Common.{Option, Some, None, refl, sym, ap, ◌∙◌, arith, unwrap_or, min, max, nat_le}
use Rattle.std.proofs.lemmas.Bool.{false≢true, le-leb}
use Rattle.std.proofs.lemmas.Bool.Decides.{nat_tests}
use Rattle.std.proofs.lemmas.Option.{none-some}
use Rattle.shadow_memory.specs.Ranges.{above, first_from}
use Rattle.shadow_memory.specs.Shadows.{Shadow, bad_at, first_bad, is_bad}
use Rattle.shadow_memory.specs.declared.cells.Bad.{Bad}
use Rattle.guest_machine.specs.State.{Core}
use Rattle.guest_machine.specs.Calls.{accessible_len, argument, moved_from_start, moved_len}
use Rattle.guest_machine.proofs.DecodeSteps.{first-same}

-- where no byte is asked to be defined, a bad one is one that may not be accessed
never : (s : Shadow) → is_bad false s ≡ not s.accessible
never s = go s.accessible
  where
    go : (b : Bool) → not b || false ≡ not b
    go true = refl
    go false = refl

searched : (s : ℕ → Shadow) (start n : ℕ)
    → first_from (λ i. is_bad false (s (above start i))) 0 n
    ≡ first_from (λ i. not (s (above start i)).accessible) 0 n
searched s start n =
    first-same (λ i. not (s (above start i)).accessible) (λ i. is_bad false (s (above start i))) 0 n
    (λ i low high. never (s (above start i)))

-- the offset of a first one is below the number of bytes
picked : (b : Bool) (k n i : ℕ) (rest : Option ℕ) → (rest ≡ Some i → i < suc k + n) → cond b (Some k) rest ≡ Some i
    → i < k + suc n
picked true k n i rest later h = let same : k ≡ i = grind (arith, h) in omega arith
picked false k n i rest later h = let below : i < suc k + n = later h in omega arith

within : (p : ℕ → Bool) (k n i : ℕ) → first_from p k n ≡ Some i → i < k + n
unfolding first_from
within p k zero i h = absurd (none-some i h)
within p k (suc n) i h = picked (p k) k n i (first_from p (suc k) n) (within p (suc k) n i) h

pub accessible_none : (s : ℕ → Shadow) (start n : ℕ) → first_bad s start n false ≡ None → n ≡ accessible_len s start n
unfolding first_bad accessible_len
accessible_none s start n h = go (first_from (λ i. is_bad false (s (above start i))) 0 n) refl h
  where
    go : (o : Option ℕ) → first_from (λ i. is_bad false (s (above start i))) 0 n ≡ o → bad_at s start o ≡ None
        → n ≡ unwrap_or (first_from (λ i. not (s (above start i)).accessible) 0 n) n
    go None e f = sym (ap (λ o. unwrap_or o n) (sym (searched s start n) ∙ e))
    go (Some i) e f = absurd (none-some _ (sym f))

some-of : (d x y : Bad) → Some x ≡ Some y → x ≡ y
some-of d x y e = ap (λ o. unwrap_or o d) e

back : (start i : ℕ) → start < 2 ^ 32 → i < 2 ^ 32 → (above start i + (2 ^ 32 - start)) % 2 ^ 32 ≡ i
back start i small low = omega arith

pub accessible_some : (s : ℕ → Shadow) (start n : ℕ) (bad : Bad) → start < 2 ^ 32 → n < 2 ^ 32
    → first_bad s start n false ≡ Some bad → (bad.addr + (2 ^ 32 - start)) % 2 ^ 32 ≡ accessible_len s start n
unfolding first_bad accessible_len
accessible_some s start n bad small few h = go (first_from (λ i. is_bad false (s (above start i))) 0 n) refl h
  where
    go : (o : Option ℕ) → first_from (λ i. is_bad false (s (above start i))) 0 n ≡ o → bad_at s start o ≡ Some bad
        → (bad.addr + (2 ^ 32 - start)) % 2 ^ 32
        ≡ unwrap_or (first_from (λ i. not (s (above start i)).accessible) 0 n) n
    go None e f = absurd (none-some _ f)
    go (Some i) e f =
        let below : i < 0 + n = within (λ i. is_bad false (s (above start i))) 0 n i e in
        let low : i < 2 ^ 32 = omega (arith, below, few) in
        ap (λ (b : Bad). (b.addr + (2 ^ 32 - start)) % 2 ^ 32) (sym (some-of bad _ bad f)) ∙ back start i small low
        ∙ sym (ap (λ o. unwrap_or o n) (sym (searched s start n) ∙ e))

-- no more is moved than is asked for
few-of : (s : ℕ → Shadow) (start n : ℕ) (o : Option ℕ)
    → first_from (λ i. not (s (above start i)).accessible) 0 n ≡ o → unwrap_or o n ≤ n
few-of s start n None e = omega arith
few-of s start n (Some i) e =
    let below : i < 0 + n = within (λ i. not (s (above start i)).accessible) 0 n i e in omega arith

few : (s : ℕ → Shadow) (start n : ℕ) → accessible_len s start n ≤ n
unfolding accessible_len
few s start n = few-of s start n (first_from (λ i. not (s (above start i)).accessible) 0 n) refl

below-all : (a n : ℕ) (b : Bool) → nat_le n 4096 ≡ b → a ≤ n → cond b n (max 4096 a) ≤ n
below-all a n true e less = omega arith
below-all a n false e less = let more : 4096 < n = grind (arith, nat_tests) in omega arith

moved-few : (s : ℕ → Shadow) (start n : ℕ) → moved_from_start s start n ≤ n
moved-few s start n = below-all (accessible_len s start n) n (nat_le n 4096) refl (few s start n)

pub moved-small : (c : Core) → argument c 12 < 2 ^ 32 → moved_len c < 2 ^ 32
unfolding moved_len
moved-small c small =
    let less = moved-few c.shadow (argument c 11) (min (argument c 12) c.limits.most_moved) in
    let least : min (argument c 12) c.limits.most_moved ≤ argument c 12 = omega arith in
    omega (arith, less, least, small)

-- up to 4,096 bytes are all moved
all-moved : (a n : ℕ) (b : Bool) → nat_le (min n 4096) 4096 ≡ b → min n 4096 ≡ cond b (min n 4096) (max 4096 a)
all-moved a n true e = refl
all-moved a n false e = absurd (false≢true (sym e ∙ le-leb (min n 4096) 4096 (omega arith)))

pub usual_moved : (s : ℕ → Shadow) (start n : ℕ) → min n 4096 ≡ moved_from_start s start (min n 4096)
usual_moved s start n = all-moved (accessible_len s start (min n 4096)) n (nat_le (min n 4096) 4096) refl

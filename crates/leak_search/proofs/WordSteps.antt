-- The words of a memory, by its bytes and what is known of them.
use Rattle.std.proofs.Common.{◌≡◌, ℕ, ◌+◌, ◌*◌, ◌<◌, ◌≤◌, ◌%◌, ◌^◌, ◌==◌, ◌&&◌, nat_lt, if◌then◌else◌, Bool, true}
use Rattle.std.proofs.Common.{false, Some, None, arith, refl, sym, ◌∙◌, ap}
use Rattle.std.proofs.lemmas.Bool.{false≢true}
use Rattle.std.proofs.lemmas.Bool.Decides.{nat_tests}
use Rattle.std.proofs.lemmas.Option.{none-some}
use Rattle.shadow_memory.specs.Ranges.{little_word, window}
use Rattle.shadow_memory.specs.Shadows.{Shadow}
use Rattle.shadow_memory.specs.Values.{value_at, holds_in_range, HoldNoneInRange, IsNextInRange}
use Rattle.leak_search.specs.Gathering.{word_within}

none_when : (a b c : Bool) (x : ℕ) → (a ≡ true → b ≡ true → c ≡ false) → (if a && (b && c) then Some x else None) ≡ None
none_when false b c x h = refl
none_when true false c x h = refl
none_when true true false x h = refl
none_when true true true x h = absurd (false≢true (sym (h refl refl)))

some_when : (a b c : Bool) (x : ℕ) → a ≡ true → b ≡ true → c ≡ true → (if a && (b && c) then Some x else None) ≡ Some x
some_when false b c x h i j = absurd (false≢true h)
some_when true false c x h i j = absurd (false≢true i)
some_when true true false x h i j = absurd (false≢true j)
some_when true true true x h i j = refl

parts_when : (a b c : Bool) (x v : ℕ) → (if a && (b && c) then Some x else None) ≡ Some v → (a ≡ true) × (b ≡ true)
parts_when false b c x v h = absurd (none-some v h)
parts_when true false c x v h = absurd (none-some v h)
parts_when true true c x v h = (refl, refl)

lt_true : (m n : ℕ) → m < n → nat_lt m n ≡ true
lt_true m n h = grind (arith, nat_tests)

true_lt : (m n : ℕ) → nat_lt m n ≡ true → m < n
true_lt m n h = grind (arith, nat_tests)

eq_true : (m : ℕ) → m ≡ 0 → (m == 0) ≡ true
eq_true m h = grind (arith, nat_tests)

true_eq : (m : ℕ) → (m == 0) ≡ true → m ≡ 0
true_eq m h = grind (arith, nat_tests)

-- a word is at a multiple of 4
pub word_place : (bytes : ℕ → ℕ) (shadows : ℕ → Shadow) (low high w v : ℕ)
    → word_within bytes shadows low high w ≡ Some v → (w % 4 ≡ 0) × (w < 2 ^ 32)
unfolding word_within
word_place bytes shadows low high w v e =
    let p = parts_when (nat_lt w (2 ^ 32)) (w % 4 == 0) (holds_in_range bytes shadows low high w) (value_at bytes w) v
    e in
    (true_eq (w % 4) p.1, true_lt w (2 ^ 32) p.0)

pub word_none : (bytes : ℕ → ℕ) (shadows : ℕ → Shadow) (low high from to : ℕ)
    → HoldNoneInRange bytes shadows low high from to → (w : ℕ) → from ≤ w → (w < 2 ^ 32 → w < to)
    → word_within bytes shadows low high w ≡ None
unfolding word_within
word_none bytes shadows low high from to none w start below =
    none_when (nat_lt w (2 ^ 32)) (w % 4 == 0) (holds_in_range bytes shadows low high w) (value_at bytes w)
    (λ less multiple. none w start (below (true_lt w (2 ^ 32) less)) (true_eq (w % 4) multiple))

-- below the end of the address space four bytes from a multiple of 4 on don't go round it
pub word_value : (bytes : ℕ → ℕ) (a : ℕ) → a < 2 ^ 32 → a % 4 ≡ 0
    → little_word (window bytes a 4) ≡ little_word (λ i. bytes (a + i))
unfolding little_word window
word_value bytes a h m =
    let e0 : (a + 0) % 4294967296 ≡ a + 0 = omega arith in
    let e1 : (a + 1) % 4294967296 ≡ a + 1 = omega arith in
    let e2 : (a + 2) % 4294967296 ≡ a + 2 = omega arith in
    let e3 : (a + 3) % 4294967296 ≡ a + 3 = omega arith in
    λ i. bytes (e0 i) + 256 * bytes (e1 i) + 65536 * bytes (e2 i) + 16777216 * bytes (e3 i)

pub word_here : (bytes : ℕ → ℕ) (shadows : ℕ → Shadow) (low high from a value : ℕ) → a < 2 ^ 32
    → IsNextInRange bytes shadows low high from a
    → value ≡ little_word (window bytes a 4) → word_within bytes shadows low high a ≡ Some value
unfolding word_within
word_here bytes shadows low high from a value h next e =
    some_when (nat_lt a (2 ^ 32)) (a % 4 == 0) (holds_in_range bytes shadows low high a) (value_at bytes a)
    (lt_true a (2 ^ 32) h) (eq_true (a % 4) next.aligned) next.holds
    ∙ ap Some (sym (e ∙ word_value bytes a h next.aligned))

-- The symbol that is nearest to an address: what it is, that there is one at most, and where a search finds it.
use Rattle.std.proofs.Common.{◌≡◌, ◌⊎◌, inl, inr, ℕ, zero, suc, ◌-◌, ◌<◌, ◌≤◌, Bool, true, false, cond, not, ◌&&◌, ◌==◌}
use Rattle.std.proofs.Common.{nat_le, leb, ltb, List, [], ◌∷◌, get_or, length}
use Rattle.std.proofs.Common.{Option, Some, None, refl, sym, ◌∙◌, ap, subst, arith, All}
use Rattle.std.proofs.lemmas.Bool.Decides.{nat_tests}
use Rattle.std.proofs.lemmas.List.{get_or_default}
use Rattle.std.proofs.lemmas.List.Elements.{All-cons, All-head, All-tail}
use Rattle.std.proofs.lemmas.List.Sorted.{All-permutation}
use Rattle.std.specs.List.{filter, find}
use Rattle.std.specs.List.Sorted.{IsNonDecreasingBy, IsPermutation, IsPartitionPoint, IsStableByKey, ties}
use Rattle.std.specs.Ordering.{is_lt, nat_cmp}
use Rattle.guest_elf.specs.Names.{nearer, nearest}
use Rattle.guest_elf.specs.declared.symbols.Symbol.{Symbol}

abbrev starts_with : Symbol → Symbol → Bool
starts_with s t = t.value == s.value

abbrev Above : ℕ → Symbol → Type 0
Above address t = address < t.value

abbrev NoNearer : ℕ → Symbol → Symbol → Type 0
NoNearer address s t = t.value ≤ address → t.value ≤ s.value

-- none begins at or below the address; or s does, none that does so begins above it, and it is the first that begins
-- where it does
abbrev pub IsNearest : List Symbol → ℕ → Option Symbol → Type 0
IsNearest symbols address None = All (Above address) symbols
IsNearest symbols address (Some s) =
    (s.value ≤ address) × All (NoNearer address s) symbols × (find (starts_with s) symbols ≡ Some s)

same_value : (n : ℕ) → (n == n) ≡ true
same_value n = grind (arith, nat_tests)

other_value : (m n : ℕ) → (m ≡ n → ⊥) → (m == n) ≡ false
other_value m n apart = grind (arith, nat_tests)

le_test : (m n : ℕ) → (nat_le m n ≡ true → m ≤ n) × (nat_le m n ≡ false → n < m)
le_test m n = ((λ e. grind (arith, nat_tests)), (λ e. grind (arith, nat_tests)))

both_test : (a b c d : ℕ) → ((nat_le a b && nat_le c d) ≡ true → (a ≤ b) × (c ≤ d))
    × ((nat_le a b && nat_le c d) ≡ false → a ≤ b → d < c)
both_test a b c d = ((λ e. (grind (arith, nat_tests), grind (arith, nat_tests))), (λ e le. grind (arith, nat_tests)))

nearer_none : (address : ℕ) (x : Symbol) (xs : List Symbol) → All (Above address) xs → (b : Bool) →
    (b ≡ true → x.value ≤ address) → (b ≡ false → address < x.value) → IsNearest (x ∷ xs) address (cond b (Some x) None)
nearer_none address x xs above true here past = (
  here refl,
  All-cons (NoNearer address x) x xs (λ le. omega arith) (λ k d below le. let higher = above k d below in
      omega (arith, higher, le)),
  ap (λ b. cond b (Some x) (find (starts_with x) xs)) (same_value x.value),
)
nearer_none address x xs above false here past = All-cons (Above address) x xs (past refl) above

nearer_some : (address : ℕ) (x s : Symbol) (xs : List Symbol) → IsNearest xs address (Some s) → (b : Bool) →
    (b ≡ true → (x.value ≤ address) × (s.value ≤ x.value)) → (b ≡ false → x.value ≤ address → x.value < s.value) →
    IsNearest (x ∷ xs) address (cond b (Some x) (Some s))
nearer_some address x s xs is true here past = (
  (here refl).0,
  All-cons (NoNearer address x) x xs (λ le. omega arith) (λ k d below le. let low = is.1 k d below le in
      omega (arith, low, (here refl).1)),
  ap (λ b. cond b (Some x) (find (starts_with x) xs)) (same_value x.value),
)
nearer_some address x s xs is false here past = (
  is.0,
  All-cons (NoNearer address s) x xs (λ le. let low = past refl le in omega (arith, low)) is.1,
  ap (λ b. cond b (Some x) (find (starts_with s) xs))
      (other_value x.value s.value (λ e. let low = past refl (omega (arith, e, is.0)) in omega (arith, low, e))) ∙ is.2,
)

nearer_is : (address : ℕ) (x : Symbol) (xs : List Symbol) (o : Option Symbol) → IsNearest xs address o →
    IsNearest (x ∷ xs) address (nearer address x o)
unfolding nearer
nearer_is address x xs None is =
    nearer_none address x xs is (nat_le x.value address) (le_test x.value address).0 (le_test x.value address).1
nearer_is address x xs (Some s) is =
    let test = both_test x.value address s.value x.value in
    nearer_some address x s xs is (nat_le x.value address && nat_le s.value x.value) test.0 test.1

nearest_is : (symbols : List Symbol) (address : ℕ) → IsNearest symbols address (nearest symbols address)
unfolding nearest
nearest_is [] address = λ k d below. absurd (omega (arith, below))
nearest_is (x ∷ xs) address = nearer_is address x xs (nearest xs address) (nearest_is xs address)

pick : (P : Symbol → Type 0) (b : Bool) (x s : Symbol) (o : Option Symbol) → P x → (o ≡ Some s → P s)
    → cond b (Some x) o ≡ Some s → P s
pick P true x s o here later e = let same : x ≡ s = cc in subst P same here
pick P false x s o here later e = later e

found_all : (P : Symbol → Type 0) (p : Symbol → Bool) (xs : List Symbol) (s : Symbol) → All P xs → find p xs ≡ Some s
    → P s
found_all P p [] s all e = absurd (let impossible : None ≡ Some s = e in cc)
found_all P p (x ∷ xs) s all e =
    pick P (p x) x s (find p xs) (All-head P x xs all) (found_all P p xs s (All-tail P x xs all)) e

-- one symbol at most is nearest
one_nearest : (symbols : List Symbol) (address : ℕ) (o p : Option Symbol) → IsNearest symbols address o
    → IsNearest symbols address p → o ≡ p
one_nearest symbols address None None first second = refl
one_nearest symbols address None (Some t) first second =
    let above = found_all (Above address) (starts_with t) symbols t first second.2 in
    absurd (omega (arith, above, second.0))
one_nearest symbols address (Some s) None first second =
    let above = found_all (Above address) (starts_with s) symbols s second first.2 in
    absurd (omega (arith, above, first.0))
one_nearest symbols address (Some s) (Some t) first second =
    let up = found_all (NoNearer address t) (starts_with s) symbols s second.1 first.2 first.0 in
    let down = found_all (NoNearer address s) (starts_with t) symbols t first.1 second.2 second.0 in
    let same : s.value ≡ t.value = omega (arith, up, down) in
    sym first.2 ∙ ap (λ v. find (λ (u : Symbol). u.value == v) symbols) same ∙ second.2

pub nearest_only : (symbols : List Symbol) (address : ℕ) (o : Option Symbol) → IsNearest symbols address o
    → o ≡ nearest symbols address
nearest_only symbols address o is =
    one_nearest symbols address o (nearest symbols address) is (nearest_is symbols address)

-- the first of a list
first_of : List Symbol → Option Symbol
first_of [] = None
first_of (x ∷ xs) = Some x

first_step : (b : Bool) (x : Symbol) (xs : List Symbol) (o : Option Symbol) → o ≡ first_of xs
    → cond b (Some x) o ≡ first_of (cond b (x ∷ xs) xs)
unfolding first_of
first_step true x xs o e = refl
first_step false x xs o e = e

find_filter : (p : Symbol → Bool) (xs : List Symbol) → find p xs ≡ first_of (filter p xs)
unfolding first_of
find_filter p [] = refl
find_filter p (x ∷ xs) = first_step (p x) x (filter p xs) (find p xs) (find_filter p xs)

find_alike : (p q : Symbol → Bool) → ((t : Symbol) → p t ≡ q t) → (xs : List Symbol) → find p xs ≡ find q xs
find_alike p q same [] = refl
find_alike p q same (x ∷ xs) =
    ap (λ b. cond b (Some x) (find p xs)) (same x) ∙ ap (λ o. cond (q x) (Some x) o) (find_alike p q same xs)

abbrev lower : Symbol → Symbol → Bool
lower s t = is_lt (nat_cmp s.value t.value)

tie : (m n : ℕ) → (n == m) ≡ (not (is_lt (nat_cmp m n)) && not (is_lt (nat_cmp n m)))
tie m n = grind (arith, nat_tests)

find_sorted : (s : Symbol) (xs ys : List Symbol) → IsStableByKey (λ (t : Symbol). t.value) nat_cmp xs ys
    → find (starts_with s) xs ≡ find (starts_with s) ys
find_sorted s xs ys stable =
    let alike = λ (t : Symbol). tie s.value t.value in
    find_alike (starts_with s) (ties lower s) alike xs ∙ find_filter (ties lower s) xs
    ∙ ap first_of (sym (stable s)) ∙ sym (find_filter (ties lower s) ys)
    ∙ sym (find_alike (starts_with s) (ties lower s) alike ys)

moved_is : (xs ys : List Symbol) (address : ℕ) (o : Option Symbol) → IsPermutation xs ys →
    IsStableByKey (λ (t : Symbol). t.value) nat_cmp xs ys → IsNearest xs address o → IsNearest ys address o
moved_is xs ys address None moved stable is = All-permutation (Above address) xs ys moved is
moved_is xs ys address (Some s) moved stable is =
    (is.0, All-permutation (NoNearer address s) xs ys moved is.1, sym (find_sorted s xs ys stable) ∙ is.2)

-- a stable sort by value keeps which symbol is nearest
pub nearest_sorted : (xs ys : List Symbol) (address : ℕ) → IsPermutation xs ys →
    IsStableByKey (λ (t : Symbol). t.value) nat_cmp xs ys → nearest ys address ≡ nearest xs address
nearest_sorted xs ys address moved stable =
    sym (nearest_only ys address (nearest xs address)
    (moved_is xs ys address (nearest xs address) moved stable (nearest_is xs address)))

find_at_place : (p : Symbol → Bool) (xs : List Symbol) (i : ℕ) (d : Symbol) → i < length xs →
    ((k : ℕ) → k < i → p (get_or xs k d) ≡ false) → p (get_or xs i d) ≡ true → find p xs ≡ Some (get_or xs i d)
find_at_place p [] i d inside before here = absurd (omega arith)
find_at_place p (x ∷ xs) zero d inside before here = ap (λ b. cond b (Some x) (find p xs)) here
find_at_place p (x ∷ xs) (suc i) d inside before here =
    ap (λ b. cond b (Some x) (find p xs)) (before 0 (omega arith))
    ∙ find_at_place p xs i d (omega arith) (λ k below. before (suc k) (omega arith)) here

lt_test : (m n : ℕ) → (ltb m n ≡ true → m < n) × (ltb m n ≡ false → n ≤ m)
lt_test m n = ((λ e. grind (arith, nat_tests)), (λ e. grind (arith, nat_tests)))

inside_or_past : (i end : ℕ) → (i < end) ⊎ (end ≤ i)
inside_or_past i end = grind arith

-- the first that begins where the last of the part does is in the part
first_inside : (symbols : List Symbol) (end first : ℕ) (d : Symbol) → 0 < end → end ≤ length symbols
    → first ≤ length symbols →
    IsPartitionPoint (λ (t : Symbol). ltb t.value (get_or symbols (end - 1) d).value ≡ true)
    (λ (t : Symbol). ltb t.value (get_or symbols (end - 1) d).value ≡ false) symbols first → first < end
first_inside symbols end first d some within at_most start =
    elim (inside_or_past first end) [
      | inl inside ↦ inside
      | inr past ↦
          let lower = (lt_test _ (get_or symbols (end - 1) d).value).0
          (start.0 (end - 1) d (omega arith) (omega arith)) in
          absurd (omega (arith, lower))
    ]

same_top : (symbols : List Symbol) (end first : ℕ) (d : Symbol) → IsNonDecreasingBy (λ (t : Symbol). t.value) symbols →
    0 < end → end ≤ length symbols → first < end →
    IsPartitionPoint (λ (t : Symbol). ltb t.value (get_or symbols (end - 1) d).value ≡ true)
    (λ (t : Symbol). ltb t.value (get_or symbols (end - 1) d).value ≡ false) symbols first →
    (get_or symbols first d).value ≡ (get_or symbols (end - 1) d).value
same_top symbols end first d up some within inside start =
    let low = (lt_test _ (get_or symbols (end - 1) d).value).1 (start.1 first d (omega arith) (omega arith)) in
    let high = up first (end - 1) d (omega arith) (omega arith) in
    omega (arith, low, high)

no_nearer : (symbols : List Symbol) (address end k top found : ℕ) (e : Symbol)
    → IsNonDecreasingBy (λ (t : Symbol). t.value) symbols →
    end ≤ length symbols → k < length symbols → found ≡ top → 0 < end → (get_or symbols (end - 1) e).value ≡ top →
    ((j : ℕ) (d : Symbol) → end ≤ j → j < length symbols → leb (get_or symbols j d).value address ≡ false) →
    (get_or symbols k e).value ≤ address → (get_or symbols k e).value ≤ found
no_nearer symbols address end k top found e up within below level some last past le =
    elim (inside_or_past k end) [
      | inl inside ↦ let high = up k (end - 1) e (omega arith) (omega arith) in omega (arith, high, level, last)
      | inr beyond ↦
          let higher = (le_test _ address).1 (past k e beyond below) in
          absurd (omega (arith, higher, le))
    ]

-- in ascending symbols nothing is nearest where the part up to the address is empty
pub nearest_of_none : (symbols : List Symbol) (address : ℕ) →
    IsPartitionPoint (λ (t : Symbol). leb t.value address ≡ true) (λ (t : Symbol). leb t.value address ≡ false) symbols
    0 →
    None ≡ nearest symbols address
nearest_of_none symbols address point =
    nearest_only symbols address None (λ k d below. (le_test _ address).1 (point.1 k d (omega arith) below))

-- and else the first that begins where the last of that part does
pub nearest_at : (symbols : List Symbol) (address end first : ℕ) (d : Symbol)
    → IsNonDecreasingBy (λ (t : Symbol). t.value) symbols →
    0 < end → end ≤ length symbols → first ≤ length symbols →
    IsPartitionPoint (λ (t : Symbol). leb t.value address ≡ true) (λ (t : Symbol). leb t.value address ≡ false) symbols
    end →
    IsPartitionPoint (λ (t : Symbol). ltb t.value (get_or symbols (end - 1) d).value ≡ true)
    (λ (t : Symbol). ltb t.value (get_or symbols (end - 1) d).value ≡ false) symbols first →
    (first < length symbols) × (Some (get_or symbols first d) ≡ nearest symbols address)
nearest_at symbols address end first d up some within at_most point start =
    let top = get_or symbols (end - 1) d in
    let inside : first < end = first_inside symbols end first d some within at_most start in
    let level = same_top symbols end first d up some within inside start in
    let found : Symbol = get_or symbols first d in (
      omega arith,
      nearest_only symbols address (Some found) (
        (let low = (le_test top.value address).0 (point.0 (end - 1) d (omega arith) (omega arith)) in
            omega (arith, low, level)),
        (λ k e below le. no_nearer symbols address end k top.value found.value e up within below level some
            (ap (λ (t : Symbol). t.value) (get_or_default symbols (end - 1) e d (omega arith))) point.1 le),
        find_at_place (starts_with found) symbols first d (omega arith)
            (λ k before. other_value _ _ (λ same. let lower = (lt_test _ top.value).0
            (start.0 k d (omega arith) before) in absurd (omega (arith, lower, level, same))))
            (same_value found.value),
      ),
    )

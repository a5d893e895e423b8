-- Tables whose rows fix bits of a word: which rows the bits of a word leave, and what the table reads from it.
use Rattle.std.proofs.Common.{◌≡◌, ℕ, suc, zero, ◌<◌, Bool, true, false, cond, List, [], ◌∷◌, Option, Some, None}
use Rattle.std.proofs.Common.{IfSome, IfNone, All, Any, length, bit_and, filter, get_or}
use Rattle.std.proofs.Common.{refl, sym, ◌∙◌, ap, arith, inl, inr}
use Rattle.std.specs.Prelude.{find, ◌==◌, ◌&&◌}
use Rattle.std.specs.Bool.{Decides}
use Rattle.std.specs.List.{list_any, list_all, AllPairs}
use Rattle.std.specs.Option.{option_map}
use Rattle.std.proofs.lemmas.Bool.{cases_Bool, eqb-false, eqb-true, and_parts}
use Rattle.std.proofs.lemmas.Bool.Decides.{Decides-eqb, not_from_Decides}
use Rattle.std.proofs.lemmas.List.Elements.{All-nil, All-cons}
use Rattle.std.proofs.lemmas.List.Kept.{AllPairs-cons}
use Rattle.std.proofs.lemmas.Option.{IfSome_then}
use Rattle.rv_fields.proofs.BitLemmas.{shared_bits, narrow_bits, differ, differ-apart, Avoids, list_any-Avoids}

-- how rows of the type R read an X from a word
pub record Table (R X : Type 0) : Type 1 where
  -- the bits that a row fixes, and what they are
  pub mask : R → ℕ
  pub value : R → ℕ
  -- the word is of the row, which it is only with these bits; and the same as a test
  pub IsOf : ℕ → R → Type 0
  pub fixed : (word : ℕ) (row : R) → IsOf word row → bit_and word (mask row) ≡ value row
  pub is_of : ℕ → R → Bool
  pub decides : (word : ℕ) (row : R) → Decides (is_of word row) (IsOf word row)
  -- what the row reads from a word that is of it
  pub read : R → ℕ → X

-- a table in which a word is of a row exactly if it has these bits
abbrev pub plain_table : {R X : Type 0} → (R → ℕ) → (R → ℕ) → (R → ℕ → X) → Table R X
plain_table mask value read =
    record {
      mask = mask;
      value = value;
      IsOf = λ word row. bit_and word (mask row) ≡ value row;
      fixed = λ word row has. has;
      is_of = λ word row. bit_and word (mask row) == value row;
      decides = λ word row. Decides-eqb (bit_and word (mask row)) (value row);
      read = read;
    }

-- what these rows read from the word: what the first of them does that it is of
abbrev pub reads : {R X : Type 0} → Table R X → List R → ℕ → Option X
reads t some word = option_map (λ row. t.read row word) (find (t.is_of word) some)

-- a word that isn't of a row fails its test
not_of : {R X : Type 0} (t : Table R X) (word : ℕ) (row : R) → (t.IsOf word row → ⊥) → t.is_of word row ≡ false
not_of t word row lacks =
    elim (cases_Bool (t.is_of word row)) [
      | inl of ↦ absurd (lacks ((t.decides word row).0 of))
      | inr other ↦ other
    ]

-- ---- elements that a test rules out

-- they do not change what is found
find-filter : {X : Type 0} (p q : X → Bool) → ((x : X) → q x ≡ false → p x ≡ false) → (xs : List X)
    → find p xs ≡ find p (filter q xs)
find-filter p q fails [] = refl
find-filter p q fails (x ∷ xs) =
    elim (cases_Bool (q x)) [
      | inl kept ↦ rw kept (ap (λ found. cond (p x) (Some x) found) (find-filter p q fails xs))
      | inr left ↦ rw (left, fails x left) (find-filter p q fails xs)
    ]

-- and none is found if they are all
find_none : {X : Type 0} (p q : X → Bool) → ((x : X) → q x ≡ true → p x ≡ false) → (xs : List X)
    → list_all q xs ≡ true → find p xs ≡ None
find_none p q fails [] all = refl
find_none p q fails (x ∷ xs) all =
    let parts = and_parts (q x) (list_all q xs) all in
    rw (fails x parts.0) (find_none p q fails xs parts.1)

-- ---- rows that some bits of a word rule out

-- a word whose bits m are k may have the fixed bits of the row
abbrev pub may_have : {R X : Type 0} → Table R X → ℕ → ℕ → R → Bool
may_have t m k row = bit_and k (t.mask row) == bit_and (t.value row) m

-- if it can't have them, it isn't of the row
may_have-false : {R X : Type 0} (t : Table R X) (word m k : ℕ) → bit_and word m ≡ k → (row : R)
    → may_have t m k row ≡ false → t.is_of word row ≡ false
may_have-false t word m k at row ruled_out =
    not_of t word row
    (λ of. eqb-false (bit_and k (t.mask row)) (bit_and (t.value row) m) ruled_out
    (shared_bits word m (t.mask row) k (t.value row) at (t.fixed word row of)))

-- so such rows may be left out
pub reads-filter : {R X : Type 0} (t : Table R X) (some : List R) (word m k : ℕ) → bit_and word m ≡ k
    → reads t some word ≡ reads t (filter (may_have t m k) some) word
reads-filter t some word m k at =
    ap (option_map (λ row. t.read row word))
    (find-filter (t.is_of word) (may_have t m k) (may_have-false t word m k at) some)

-- the row fixes the bits m to one of the values
abbrev pub fixes : {R X : Type 0} → Table R X → ℕ → List ℕ → R → Bool
fixes t m values row = (bit_and (t.mask row) m == m) && list_any (λ v. bit_and (t.value row) m == v) values

-- a word whose bits m are none of the values isn't of such a row
fixes-other : {R X : Type 0} (t : Table R X) (word m : ℕ) (values : List ℕ) → Avoids (bit_and word m) values → (row : R)
    → fixes t m values row ≡ true → t.is_of word row ≡ false
fixes-other t word m values avoids row fixed =
    let parts = and_parts (bit_and (t.mask row) m == m) (list_any (λ v. bit_and (t.value row) m == v) values) fixed in
    not_of t word row
    (λ of.
    let same : bit_and word m ≡ bit_and (t.value row) m = narrow_bits word (t.mask row) m (t.value row)
    (eqb-true (bit_and (t.mask row) m) m parts.0) (t.fixed word row of) in
    let clash : true ≡ false = sym parts.1 ∙ ap (λ n. list_any (λ v. n == v) values) (sym same)
    ∙ list_any-Avoids (bit_and word m) values avoids in
    cc)

-- so rows that are all such read nothing from it
pub reads-fixes : {R X : Type 0} (t : Table R X) (some : List R) (word m : ℕ) (values : List ℕ)
    → Avoids (bit_and word m) values → list_all (fixes t m values) some ≡ true → reads t some word ≡ None
reads-fixes t some word m values avoids all =
    ap (option_map (λ row. t.read row word))
    (find_none (t.is_of word) (fixes t m values) (fixes-other t word m values avoids) some all)

-- ---- the row that is found, or none

-- what each row reads has a property, so what is read has it
pub reads-IfSome : {R X : Type 0} (t : Table R X) (P : X → Type 0) → ((row : R) (word : ℕ) → P (t.read row word))
    → (some : List R) (word : ℕ) → IfSome (reads t some word) P
reads-IfSome t P holds [] word = tt
reads-IfSome t P holds (r ∷ rs) word =
    elim (cases_Bool (t.is_of word r)) [
      | inl of ↦ rw of (holds r word)
      | inr other ↦ rw other (reads-IfSome t P holds rs word)
    ]

-- an element of the rest is one of the list
Any-tail : {X : Type 0} (P : X → Type 0) (x : X) (xs : List X) → Any P xs → Any P (x ∷ xs)
Any-tail P x xs (k, y, within, at, holds) = (suc k, y, omega arith, at, holds)

-- what follows from a fact for no value
IfNone_then : {X : Type 0} (o : Option X) {P Q : Type 0} → IfNone o P → (P → Q) → IfNone o Q
IfNone_then None holds then = then holds
IfNone_then (Some x) holds then = tt

-- what is read is what a row does that the word is of
pub reads-Any : {R X : Type 0} (t : Table R X) (some : List R) (word : ℕ)
    → IfSome (reads t some word) (λ x. Any (λ row. t.IsOf word row × (x ≡ t.read row word)) some)
reads-Any t [] word = tt
reads-Any t (r ∷ rs) word =
    elim (cases_Bool (t.is_of word r)) [
      | inl of ↦ rw of (0, r, omega arith, refl, ((t.decides word r).0 of, refl))
      | inr other ↦ rw other (IfSome_then (reads t rs word) (reads-Any t rs word)
          (λ x. Any-tail (λ row. t.IsOf word row × (x ≡ t.read row word)) r rs))
    ]

-- where nothing is read the word is of none
pub reads-All : {R X : Type 0} (t : Table R X) (some : List R) (word : ℕ)
    → IfNone (reads t some word) (All (λ row. ¬ t.IsOf word row) some)
reads-All t [] word = All-nil (λ row. ¬ t.IsOf word row)
reads-All t (r ∷ rs) word =
    elim (cases_Bool (t.is_of word r)) [
      | inl of ↦ rw of tt
      | inr other ↦ rw other (IfNone_then (reads t rs word) (reads-All t rs word)
          (All-cons (λ row. ¬ t.IsOf word row) r rs (not_from_Decides (t.is_of word r) (t.decides word r) other)))
    ]

-- ---- no word has two rows

-- each element passes the test with each later one
abbrev pub all_apart : {X : Type 0} → (X → X → Bool) → List X → Bool
all_apart apart [] = true
all_apart apart (x ∷ xs) = list_all (apart x) xs && all_apart apart xs

-- what the test shows holds of each
list_all-All : {X : Type 0} (p : X → Bool) (P : X → Type 0) → ((x : X) → p x ≡ true → P x) → (xs : List X)
    → list_all p xs ≡ true → All P xs
list_all-All p P shows [] all = All-nil P
list_all-All p P shows (x ∷ xs) all =
    let parts = and_parts (p x) (list_all p xs) all in
    All-cons P x xs (shows x parts.0) (list_all-All p P shows xs parts.1)

-- what the test of two shows holds of each and each later one
pub all_apart-AllPairs : {X : Type 0} (apart : X → X → Bool) (P : X → X → Type 0)
    → ((x y : X) → apart x y ≡ true → P x y) → (xs : List X) → all_apart apart xs ≡ true → AllPairs P xs
all_apart-AllPairs apart P shows [] are_apart = λ i j d below within. absurd (omega arith)
all_apart-AllPairs apart P shows (x ∷ xs) are_apart =
    let parts = and_parts (list_all (apart x) xs) (all_apart apart xs) are_apart in
    AllPairs-cons P x xs (list_all-All (apart x) (P x) (shows x) xs parts.0)
    (all_apart-AllPairs apart P shows xs parts.1)

-- no word is of both rows
abbrev pub Excludes : {R X : Type 0} → Table R X → R → R → Type 0
Excludes t one other = (word : ℕ) → t.IsOf word one → ¬ t.IsOf word other

-- some bit that rows of two tables fix is fixed to two values
abbrev pub differs : {R X S Y : Type 0} → Table R X → Table S Y → R → S → Bool
differs t u one other = differ (t.mask one) (t.value one) (u.mask other) (u.value other)

-- no word is of both
pub differs-apart : {R X S Y : Type 0} (t : Table R X) (u : Table S Y) (one : R) (other : S)
    → differs t u one other ≡ true → (word : ℕ) → t.IsOf word one → ¬ u.IsOf word other
differs-apart t u one other apart word of also =
    differ-apart (t.mask one) (t.value one) (u.mask other) (u.value other) apart word
    (t.fixed word one of) (u.fixed word other also)

-- an element that passes is found if no two do
find_only : {X : Type 0} (p : X → Bool) (xs : List X) → AllPairs (λ x y. p x ≡ true → p y ≡ true → ⊥) xs
    → (k : ℕ) (d : X) → k < length xs → p (get_or xs k d) ≡ true → find p xs ≡ Some (get_or xs k d)
find_only p [] one k d within passes = absurd (omega arith)
find_only p (x ∷ xs) one zero d within passes = rw passes refl
find_only p (x ∷ xs) one (suc k) d within passes =
    elim (cases_Bool (p x)) [
      | inl also ↦ absurd (one 0 (suc k) d (omega arith) within also passes)
      | inr failed ↦ rw failed (find_only p xs
          (λ i j d below inside. one (suc i) (suc j) d (omega arith) (omega arith)) k d (omega arith) passes)
    ]

-- a row that the word is of reads it, wherever it is
pub reads-only : {R X : Type 0} (t : Table R X) (some : List R) → AllPairs (Excludes t) some → (word : ℕ)
    → All (λ row. t.IsOf word row → reads t some word ≡ Some (t.read row word)) some
reads-only t some one word k d within of =
    ap (option_map (λ row. t.read row word))
    (find_only (t.is_of word) some
    (λ i j d below inside at_i at_j.
    one i j d below inside word ((t.decides word (get_or some i d)).0 at_i) ((t.decides word (get_or some j d)).0 at_j))
    k d within ((t.decides word (get_or some k d)).1 of))

-- ---- two tables

-- a table reads nothing from a word that is of a row of another, which differs from all of its rows
differs-None : {R X S Y : Type 0} (t : Table R X) (u : Table S Y) (others : List S) (row : R)
    → list_all (differs t u row) others ≡ true → (word : ℕ) → t.IsOf word row → reads u others word ≡ None
differs-None t u others row apart word of =
    ap (option_map (λ other. u.read other word))
    (find_none (u.is_of word) (differs t u row)
    (λ other differ. not_of u word other (differs-apart t u row other differ word of)) others apart)

-- so what the one reads, the other doesn't
pub reads-apart : {R X S Y : Type 0} (t : Table R X) (u : Table S Y) (some : List R) (others : List S)
    → list_all (λ row. list_all (differs t u row) others) some ≡ true → (word : ℕ)
    → IfSome (reads t some word) (λ x. reads u others word ≡ None)
reads-apart t u [] others apart word = tt
reads-apart t u (r ∷ rs) others apart word =
    let parts = and_parts (list_all (differs t u r) others) (list_all (λ row. list_all (differs t u row) others) rs)
    apart in
    elim (cases_Bool (t.is_of word r)) [
      | inl of ↦ rw of (differs-None t u others r parts.0 word ((t.decides word r).0 of))
      | inr other ↦ rw other (reads-apart t u rs others parts.1 word)
    ]

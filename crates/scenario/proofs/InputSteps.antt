-- Two inputs: how many bytes they begin with alike, and where one shows in place of the other.
use Rattle.std.proofs.Common.{◌≡◌, ℕ, zero, suc, ◌+◌, ◌<◌, ◌≤◌, ◌==◌, nat_lt, Bool, true, false, cond, List, [], ◌∷◌}
use Rattle.std.proofs.Common.{◌++◌, length, take, drop, Some, inl, inr, refl, ap, sym, ◌∙◌, subst, arith}
use Rattle.std.proofs.Common.{append_assoc, ◌-◌, min}
use Rattle.std.specs.Prelude.{slice_get}
use Rattle.std.proofs.lemmas.Bool.{cases_lt, eqb-true, eq-eqb, lt-ltb, le-ltb}
use Rattle.std.proofs.lemmas.List.{length-append, length-drop, length-take-le, take-append-drop, take_all, take_at}
use Rattle.std.proofs.lemmas.List.{drop-drop, drop_all, drop_at, take_rest}
use Rattle.checkpoints.specs.declared.effect.Effect.{Effect}
use Rattle.checkpoints.specs.declared.effect.Effect.TheVariants.{Nowhere, Input, End}
use Rattle.scenario.specs.Edits.{alike, input_effect, overwritten}

-- ---- what two inputs begin with

bounded : (b : Bool) (n one other : ℕ) → (n ≤ one) × (n ≤ other)
    → (cond b (suc n) 0 ≤ suc one) × (cond b (suc n) 0 ≤ suc other)
bounded true n one other h = (omega (arith, h.0), omega (arith, h.1))
bounded false n one other h = (omega arith, omega arith)

pub alike-within : (xs ys : List ℕ) → (alike xs ys ≤ length xs) × (alike xs ys ≤ length ys)
unfolding alike
alike-within [] ys = (omega arith, omega arith)
alike-within (x ∷ xs) [] = (omega arith, omega arith)
alike-within (x ∷ xs) (y ∷ ys) = bounded (x == y) (alike xs ys) (length xs) (length ys) (alike-within xs ys)

is-same : (b : Bool) (n i : ℕ) → i < cond b (suc n) 0 → b ≡ true
is-same true n i l = refl
is-same false n i l = absurd (omega arith)

goes-on : (b : Bool) (n i : ℕ) → suc i < cond b (suc n) 0 → i < n
goes-on true n i l = omega arith
goes-on false n i l = absurd (omega arith)

-- each of these bytes is the same
pub alike-bytes : (xs ys : List ℕ) (i : ℕ) → i < alike xs ys → slice_get xs i ≡ slice_get ys i
unfolding alike
alike-bytes [] ys i l = absurd (omega arith)
alike-bytes (x ∷ xs) [] i l = absurd (omega arith)
alike-bytes (x ∷ xs) (y ∷ ys) zero l = ap Some (eqb-true x y (is-same (x == y) (alike xs ys) 0 l))
alike-bytes (x ∷ xs) (y ∷ ys) (suc i) l = alike-bytes xs ys i (goes-on (x == y) (alike xs ys) i l)

all-same : (b : Bool) (n m : ℕ) → cond b (suc n) 0 ≡ suc m → (b ≡ true) × (n ≡ m)
all-same true n m e = (refl, omega arith)
all-same false n m e = absurd (omega arith)

-- one of them begins with the other
pub alike-first : (xs ys : List ℕ) → alike xs ys ≡ length xs → ys ≡ xs ++ drop (length xs) ys
unfolding alike
alike-first [] ys e = refl
alike-first (x ∷ xs) [] e = absurd (omega arith)
alike-first (x ∷ xs) (y ∷ ys) e =
    let same = all-same (x == y) (alike xs ys) (length xs) e in
    ap (λ z. z ∷ ys) (sym (eqb-true x y same.0)) ∙ ap (λ zs. x ∷ zs) (alike-first xs ys same.1)

pub alike-second : (xs ys : List ℕ) → alike xs ys ≡ length ys → ys ++ drop (length ys) xs ≡ xs
unfolding alike
alike-second xs [] e = refl
alike-second [] (y ∷ ys) e = absurd (omega arith)
alike-second (x ∷ xs) (y ∷ ys) e =
    let same = all-same (x == y) (alike xs ys) (length ys) e in
    ap (λ z. z ∷ (ys ++ drop (length ys) xs)) (sym (eqb-true x y same.0))
    ∙ ap (λ zs. x ∷ zs) (alike-second xs ys same.1)

pub alike-self : (xs : List ℕ) → alike xs xs ≡ length xs
unfolding alike
alike-self [] = refl
alike-self (x ∷ xs) = ap (λ b. cond b (suc (alike xs xs)) 0) (eq-eqb x x refl) ∙ ap suc (alike-self xs)

-- after the same front
pub alike-after : (front xs ys : List ℕ) → alike (front ++ xs) (front ++ ys) ≡ length front + alike xs ys
unfolding alike
alike-after [] xs ys = omega arith
alike-after (z ∷ front) xs ys =
    let rest = alike-after front xs ys in
    ap (λ b. cond b (suc (alike (front ++ xs) (front ++ ys))) 0) (eq-eqb z z refl) ∙ ap suc rest ∙ omega arith

still : (b : Bool) (n k m : ℕ) → (n < m → k ≡ n) → cond b (suc n) 0 < suc m → cond b (suc k) 0 ≡ cond b (suc n) 0
still true n k m h l = ap suc (h (omega arith))
still false n k m h l = refl

-- what comes after the second where they part doesn't matter
pub alike-longer : (xs ys more : List ℕ) → alike xs ys < length ys → alike xs (ys ++ more) ≡ alike xs ys
unfolding alike
alike-longer [] ys more l = refl
alike-longer (x ∷ xs) [] more l = absurd (omega arith)
alike-longer (x ∷ xs) (y ∷ ys) more l =
    still (x == y) (alike xs ys) (alike xs (ys ++ more)) (length ys) (alike-longer xs ys more) l

none-left : (xs : List ℕ) → alike xs [] ≡ 0
unfolding alike
none-left [] = refl
none-left (x ∷ xs) = refl

-- the other one has no more
pub alike-ended : (xs ys : List ℕ) (n : ℕ) → length ys ≤ n → alike xs ys ≡ n + alike (drop n xs) (drop n ys)
    → n ≡ alike xs ys
alike-ended xs ys n l e =
    let none : alike (drop n xs) (drop n ys) ≡ 0 = ap (λ zs. alike (drop n xs) zs) (drop_all n ys l)
    ∙ none-left (drop n xs) in
    omega arith

-- ---- where the other one shows

pub shows-at : (old new : List ℕ) (n : ℕ) → alike old new ≡ n → n < length old → Input n ≡ input_effect old new
unfolding input_effect
shows-at old new n e l =
    subst (λ (m : ℕ). Input m ≡ input_effect old new) e
    (sym (ap (λ b. cond b (Input (alike old new)) (cond (nat_lt (length old) (length new)) End Nowhere))
    (lt-ltb (alike old new) (length old) (omega arith))))

shows-past : (old new : List ℕ) → alike old new ≡ length old
    → input_effect old new ≡ cond (nat_lt (length old) (length new)) End Nowhere
unfolding input_effect
shows-past old new e =
    ap (λ b. cond b (Input (alike old new)) (cond (nat_lt (length old) (length new)) End Nowhere))
    (le-ltb (alike old new) (length old) (omega arith))

pub shows-end : (old new : List ℕ) → alike old new ≡ length old → length old < length new → End ≡ input_effect old new
shows-end old new e l =
    sym (shows-past old new e ∙ ap (λ b. cond b End Nowhere) (lt-ltb (length old) (length new) l))

pub shows-nowhere : (xs : List ℕ) → Nowhere ≡ input_effect xs xs
shows-nowhere xs =
    sym (shows-past xs xs (alike-self xs) ∙ ap (λ b. cond b End Nowhere) (le-ltb (length xs) (length xs) (omega arith)))

-- it isn't written as a code is
pub of-input : (P : Effect → Type 0) → P Nowhere → P End → ((n : ℕ) → P (Input n)) → (old new : List ℕ)
    → P (input_effect old new)
unfolding input_effect
of-input P nowhere end input old new =
    go (nat_lt (alike old new) (length old)) (nat_lt (length old) (length new))
  where
    go : (b c : Bool) → P (cond b (Input (alike old new)) (cond c End Nowhere))
    go true c = input (alike old new)
    go false true = end
    go false false = nowhere

-- ---- bytes that are replaced

not-whole : (a b : ℕ) → a ≤ b → (a ≡ b → ⊥) → a < b
not-whole a b l n = elim (cases_lt a b) [
  | inl less ↦ less
  | inr more ↦ absurd (n (omega arith))
]

-- by the front that stays, which is the whole input if the offset is beyond it
pub fronted : (xs bytes : List ℕ) (offset start : ℕ) → start ≡ min (length xs) offset
    → overwritten xs offset bytes ≡ take start xs ++ (bytes ++ drop (length bytes) (drop start xs))
fronted xs bytes offset start e = elim (cases_lt (length xs) offset) [
  | inl past ↦ (
      let whole : take offset xs ≡ take start xs = take_all offset xs (omega arith)
      ∙ sym (take_all start xs (omega arith)) in
      let none : drop (offset + length bytes) xs ≡ drop (length bytes) (drop start xs) =
      drop_all (offset + length bytes) xs (omega arith)
      ∙ sym (drop-drop (length bytes) start xs ∙ drop_all (start + length bytes) xs (omega arith)) in
      append_assoc (take offset xs) bytes (drop (offset + length bytes) xs) ∙ (λ i. whole i ++ (bytes ++ none i))
      )
  | inr there ↦ (
      let same : start ≡ offset = omega arith in
      append_assoc (take offset xs) bytes (drop (offset + length bytes) xs)
      ∙ ap (λ rest. take offset xs ++ (bytes ++ rest)) (sym (drop-drop (length bytes) offset xs))
      ∙ ap (λ n. take n xs ++ (bytes ++ drop (length bytes) (drop n xs))) (sym same)
      )
]

-- where they show, by the bytes from there on that are the same
module _ (front rest bytes : List ℕ) where
  abbrev pub old : List ℕ
  old = front ++ rest

  abbrev pub new : List ℕ
  new = front ++ (bytes ++ drop (length bytes) rest)

  pub none-differs : alike rest bytes ≡ length bytes → Nowhere ≡ input_effect old new
  none-differs e =
      subst (λ (zs : List ℕ). Nowhere ≡ input_effect (front ++ rest) (front ++ zs)) (sym (alike-second rest bytes e))
      (shows-nowhere (front ++ rest))

  counts : alike rest bytes < length bytes → alike old new ≡ length front + alike rest bytes
  counts l = alike-after front rest (bytes ++ drop (length bytes) rest)
      ∙ ap (λ n. length front + n) (alike-longer rest bytes (drop (length bytes) rest) l)

  pub differs : alike rest bytes < length bytes → alike rest bytes < length rest
      → Input (length front + alike rest bytes) ≡ input_effect old new
  differs l m =
      let size = length-append front rest in
      shows-at old new (length front + alike rest bytes) (counts l) (omega arith)

  pub goes-past : alike rest bytes < length bytes → alike rest bytes ≡ length rest → End ≡ input_effect old new
  goes-past l e =
      let size = length-append front rest in
      let other = length-append front (bytes ++ drop (length bytes) rest) in
      let more = length-append bytes (drop (length bytes) rest) in
      shows-end old new (counts l ∙ omega arith) (omega arith)

-- the same, by the number of the front's bytes and of those that are the same
module _ (xs bytes : List ℕ) (offset start same : ℕ) (first : start ≡ min (length xs) offset)
    (count : same ≡ alike (take (length xs - start) (drop start xs)) bytes)
  where
    counted : same ≡ alike (drop start xs) bytes
    counted = count ∙ ap (λ rest. alike rest bytes) (take_rest xs start)

    pub within-input : start + same ≤ length xs
    within-input =
        let within = alike-within (drop start xs) bytes in
        let left = length-drop start xs in
        let c = counted in
        omega (arith, within.0)

    of-parts : (effect : Effect)
        → effect ≡ input_effect (take start xs ++ drop start xs)
        (take start xs ++ (bytes ++ drop (length bytes) (drop start xs)))
        → effect ≡ input_effect xs (overwritten xs offset bytes)
    of-parts effect e =
        e ∙ (λ i. input_effect (take-append-drop start xs i) (sym (fronted xs bytes offset start first) i))

    pub shows-none : same ≡ length bytes → Nowhere ≡ input_effect xs (overwritten xs offset bytes)
    shows-none e =
        of-parts Nowhere (none-differs (take start xs) (drop start xs) bytes (sym counted ∙ e))

    fewer : (same ≡ length bytes → ⊥) → alike (drop start xs) bytes < length bytes
    fewer n =
        let within = alike-within (drop start xs) bytes in
        subst (λ (m : ℕ). m < length bytes) counted
        (not-whole same (length bytes) (subst (λ (m : ℕ). m ≤ length bytes) (sym counted) within.1) n)

    pub shows-more : (same ≡ length bytes → ⊥) → same ≡ length (take (length xs - start) (drop start xs))
        → End ≡ input_effect xs (overwritten xs offset bytes)
    shows-more n e =
        of-parts End (goes-past (take start xs) (drop start xs) bytes (fewer n)
        (sym counted ∙ e ∙ ap length (take_rest xs start)))

    pub shows-there : (same ≡ length bytes → ⊥) → (same ≡ length (take (length xs - start) (drop start xs)) → ⊥)
        → Input (start + same) ≡ input_effect xs (overwritten xs offset bytes)
    shows-there n m =
        let within = alike-within (drop start xs) bytes in
        let rest : alike (drop start xs) bytes < length (drop start xs) =
        subst (λ (k : ℕ). k < length (drop start xs)) counted
        (not-whole same (length (drop start xs)) (subst (λ (k : ℕ). k ≤ length (drop start xs)) (sym counted) within.0)
        (λ e. m (e ∙ ap length (sym (take_rest xs start))))) in
        let front : length (take start xs) ≡ start = length-take-le start xs (omega arith) in
        of-parts (Input (start + same)) ((λ i. Input (sym front i + counted i))
        ∙ differs (take start xs) (drop start xs) bytes (fewer n) rest)

-- an end beyond the input is one, too, if it is only known to be high
pub far-end : (len end most : ℕ) → len < most → nat_lt len (min end most) ≡ nat_lt len end
far-end len end most l = elim (cases_lt len end) [
  | inl past ↦ lt-ltb len (min end most) (omega arith) ∙ sym (lt-ltb len end past)
  | inr within ↦ le-ltb len (min end most) (omega arith) ∙ sym (le-ltb len end within)
]

-- what was there gives the old input back
pub overwritten-back : (xs bytes : List ℕ) (offset : ℕ) → offset + length bytes ≤ length xs
    → overwritten (overwritten xs offset bytes) offset (take (length bytes) (drop offset xs)) ≡ xs
overwritten-back xs bytes offset l =
    let front : length (take offset xs) ≡ offset = length-take-le offset xs (omega arith) in
    let left = length-drop offset xs in
    let there : length (take (length bytes) (drop offset xs)) ≡ length bytes =
    length-take-le (length bytes) (drop offset xs) (omega arith) in
    let joined = length-append (take offset xs) bytes in
    let before : take offset (overwritten xs offset bytes) ≡ take offset xs =
    ap (λ zs. take offset zs) (append_assoc (take offset xs) bytes (drop (offset + length bytes) xs))
    ∙ take_at (take offset xs) (bytes ++ drop (offset + length bytes) xs) offset front in
    let after : drop (offset + length (take (length bytes) (drop offset xs))) (overwritten xs offset bytes)
    ≡ drop (offset + length bytes) xs =
    drop_at (take offset xs ++ bytes) (drop (offset + length bytes) xs)
    (offset + length (take (length bytes) (drop offset xs))) (omega arith) in
    (λ i. before i ++ take (length bytes) (drop offset xs) ++ after i)
    ∙ append_assoc (take offset xs) (take (length bytes) (drop offset xs)) (drop (offset + length bytes) xs)
    ∙ ap (λ zs. take offset xs ++ (take (length bytes) (drop offset xs) ++ zs))
    (sym (drop-drop (length bytes) offset xs))
    ∙ ap (λ zs. take offset xs ++ zs) (take-append-drop (length bytes) (drop offset xs))
    ∙ take-append-drop offset xs

pub overwritten-len : (xs bytes : List ℕ) (offset : ℕ) → offset + length bytes ≤ length xs
    → length (overwritten xs offset bytes) ≡ length xs
overwritten-len xs bytes offset l =
    let front : length (take offset xs) ≡ offset = length-take-le offset xs (omega arith) in
    let joined = length-append (take offset xs) bytes in
    let all = length-append (take offset xs ++ bytes) (drop (offset + length bytes) xs) in
    let left = length-drop (offset + length bytes) xs in
    omega arith

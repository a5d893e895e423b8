-- The functions of the heap: what symbols in the order of their addresses name is what they name in the order of their
-- table.
use Rattle.std.proofs.Common.{◌≡◌, ◌⊎◌, inl, inr, ℕ, zero, suc, ◌+◌, ◌<◌, ◌≤◌, Bool, true, false, cond, ◌==◌, nat_eq}
use Rattle.std.proofs.Common.{nat_lt, List, [], ◌∷◌, ◌++◌, get_or, take, drop}
use Rattle.std.proofs.Common.{length, min, ◌-◌, Option, Some, None, refl, sym, ◌∙◌, ap, subst, arith, not, ◌&&◌}
use Rattle.std.specs.Prelude.{codes, is_some}
use Rattle.std.proofs.lemmas.Bool.Decides.{nat_tests}
use Rattle.std.specs.List.{before_first, filter, position_or_len}
use Rattle.std.proofs.Math.Nat.{min_comm}
use Rattle.std.proofs.lemmas.List.{drop_all, drop_min, drop_more, get_or_default, take_min, take_rest}
use Rattle.std.specs.List.Sorted.{IsNonDecreasingBy, IsStableByKey, ties}
use Rattle.std.specs.Option.{option_or}
use Rattle.std.specs.Ordering.{is_lt, nat_cmp}
use Rattle.std.specs.Str.{bytes_eq}
use Rattle.guest_elf.specs.Hooks.{IsRising, hook_named, hook_put, hook_put_if, hooks_by, hook_at}
use Rattle.guest_elf.specs.Sections.{is_zero, name_from}
use Rattle.guest_elf.specs.declared.hook.Hook.{Hook}
use Rattle.guest_elf.specs.declared.symbols.Symbol.{Symbol}

-- lists of addresses with functions --

-- addresses that rise from n on
abbrev pub Rises : ℕ → List (ℕ × Hook) → Type 0
Rises n [] = Unit {0}
Rises n (e ∷ es) = (n ≤ e.0) × Rises (suc e.0) es

-- and stay below an end
abbrev pub Within : ℕ → ℕ → List (ℕ × Hook) → Type 0
Within n end [] = n ≤ end
Within n end (e ∷ es) = (n ≤ e.0) × Within (suc e.0) end es

pub within_rises : (n end : ℕ) (es : List (ℕ × Hook)) → Within n end es → Rises n es
within_rises n end [] h = tt
within_rises n end (e ∷ es) h = (h.0, within_rises (suc e.0) end es h.1)

-- another one at or past the end
pub within_more : (n end v : ℕ) (hook : Hook) (es : List (ℕ × Hook)) → end ≤ v → Within n end es
    → Within n (suc v) (es ++ (v, hook) ∷ [])
within_more n end v hook [] past h = (omega (arith, past, h), omega arith)
within_more n end v hook (e ∷ es) past h = (h.0, within_more (suc e.0) end v hook es past h.1)

same_number : (n : ℕ) → (n == n) ≡ true
same_number n = grind (arith, nat_tests)

other_number : (m n : ℕ) → (m ≡ n → ⊥) → (m == n) ≡ false
other_number m n apart = grind (arith, nat_tests)

number_is : (m n : ℕ) → (m == n) ≡ true → m ≡ n
number_is m n e = grind (arith, nat_tests)

-- below the first address there is none
none_below : (n a : ℕ) (es : List (ℕ × Hook)) → Rises n es → a < n → hook_at es a ≡ None
unfolding hook_at
none_below n a [] h below = refl
none_below n a (e ∷ es) h below =
    let low : n ≤ e.0 = h.0 in
    ap (λ b. cond b (Some e.1) (hook_at es a)) (other_number e.0 a (λ same. omega (arith, low, below, same)))
    ∙ none_below (suc e.0) a es h.1 (omega (arith, low, below))

here : (e : ℕ × Hook) (es : List (ℕ × Hook)) → hook_at (e ∷ es) e.0 ≡ Some e.1
unfolding hook_at
here e es = ap (λ b. cond b (Some e.1) (hook_at es e.0)) (same_number e.0)

elsewhere : (e : ℕ × Hook) (es : List (ℕ × Hook)) (a : ℕ) → (e.0 ≡ a → ⊥) → hook_at (e ∷ es) a ≡ hook_at es a
unfolding hook_at
elsewhere e es a apart = ap (λ b. cond b (Some e.1) (hook_at es a)) (other_number e.0 a apart)

some_is : (x y : Hook) → Some x ≡ Some y → x ≡ y
some_is x y e = cc

no_some : (x : Hook) → Some x ≡ None → ⊥
no_some x e = let impossible : Some x ≡ None = e in cc

less_or : (m n : ℕ) → (m < n) ⊎ ((m ≡ n) ⊎ (n < m))
less_or m n = grind arith

-- addresses that rise and give the same functions are the same
pub one_list : (n m : ℕ) (es fs : List (ℕ × Hook)) → Rises n es → Rises m fs → ((a : ℕ) → hook_at es a ≡ hook_at fs a)
    → es ≡ fs
unfolding hook_at
one_list n m [] [] h k same = refl
one_list n m [] (f ∷ fs) h k same = absurd (no_some f.1 (sym (same f.0 ∙ here f fs)))
one_list n m (e ∷ es) [] h k same = absurd (no_some e.1 (sym (here e es) ∙ same e.0))
one_list n m (e ∷ es) (f ∷ fs) h k same =
    elim (less_or e.0 f.0) [
      | inl less ↦ absurd (no_some e.1 (sym (here e es) ∙ same e.0 ∙ elsewhere f fs e.0 (λ q. omega (arith, less, q))
          ∙ none_below (suc f.0) e.0 fs k.1 (omega (arith, less))))
      | inr rest ↦ elim rest [
        | inl level ↦
            let first : e ≡ f = λ i. (
              level i,
              (some_is e.1 f.1 (sym (here e es) ∙ same e.0 ∙ ap (hook_at (f ∷ fs)) level ∙ here f fs)) i,
            ) in
            let tails : es ≡ fs = one_list (suc e.0) (suc f.0) es fs h.1 k.1 (λ a. tail_same a (e.0 == a) refl level) in
            λ i. first i ∷ tails i
        | inr more ↦ absurd (no_some f.1 (sym (here f fs) ∙ sym (same f.0)
            ∙ elsewhere e es f.0 (λ q. omega (arith, more, q)) ∙ none_below (suc e.0) f.0 es h.1 (omega (arith, more))))
      ]
    ]
  where
    tail_same : (a : ℕ) (b : Bool) → (e.0 == a) ≡ b → e.0 ≡ f.0 → hook_at es a ≡ hook_at fs a
    tail_same a true q level =
        let at : e.0 ≡ a = number_is e.0 a q in
        none_below (suc e.0) a es h.1 (omega (arith, at))
        ∙ sym (none_below (suc f.0) a fs k.1 (omega (arith, at, level)))
    tail_same a false q level =
        let off : e.0 ≡ a → ⊥ = λ at. absurd (let no : true ≡ false = sym (same_number e.0) ∙ ap (λ x. e.0 == x) at
        ∙ q in cc) in
        sym (elsewhere e es a off) ∙ same a ∙ elsewhere f fs a (λ at. off (level ∙ at))

-- the addresses are in order
from_first : (n : ℕ) (es : List (ℕ × Hook)) (i : ℕ) (d : ℕ × Hook) → Rises n es → i < length es → n ≤ (get_or es i d).0
from_first n [] i d h inside = absurd (omega (arith, inside))
from_first n (e ∷ es) zero d h inside = h.0
from_first n (e ∷ es) (suc i) d h inside =
    let later = from_first (suc e.0) es i d h.1 (omega (arith, inside)) in omega (arith, h.0, later)

rise : (n : ℕ) (es : List (ℕ × Hook)) → Rises n es → IsRising es
unfolding IsRising
rise n [] h i j d less inside = absurd (omega (arith, inside))
rise n (e ∷ es) h zero zero d less inside = absurd (omega (arith, less))
rise n (e ∷ es) h zero (suc j) d less inside = from_first (suc e.0) es j d h.1 (omega (arith, inside))
rise n (e ∷ es) h (suc i) zero d less inside = absurd (omega (arith, less))
rise n (e ∷ es) h (suc i) (suc j) d less inside =
    rise (suc e.0) es h.1 i j d (omega (arith, less)) (omega (arith, inside))

rising_sorted : (es : List (ℕ × Hook)) → IsRising es → IsNonDecreasingBy (λ (e : ℕ × Hook). e.0) es
unfolding IsRising
rising_sorted es h i j d within inside =
    elim (before_or i j within) [
      | inl less ↦ let low = h i j d less inside in omega (arith, low)
      | inr same ↦ let level : (get_or es i d).0 ≡ (get_or es j d).0 = ap (λ k. (get_or es k d).0) same in
          omega (arith, level)
    ]
  where
    before_or : (m n : ℕ) → m ≤ n → (m < n) ⊎ (m ≡ n)
    before_or m n le = grind (arith, le)

-- one put among others --

swap : (r t : Bool) (x y z : Option Hook) → (r ≡ true → t ≡ true → ⊥) → cond r x (cond t y z) ≡ cond t y (cond r x z)
swap true true x y z apart = absurd (apart refl refl)
swap true false x y z apart = refl
swap false t x y z apart = refl

cover : (r t : Bool) (x y z : Option Hook) → (t ≡ true → r ≡ true) → cond r x z ≡ cond r x (cond t y z)
cover true t x y z within = refl
cover false true x y z within = absurd (let no : false ≡ true = within refl in cc)
cover false false x y z within = refl

apart_test : (a b c : ℕ) → (a == c) ≡ false → (c == b) ≡ true → (a == b) ≡ true → ⊥
apart_test a b c p q r = grind (arith, nat_tests)

same_test : (a b c : ℕ) → (a == c) ≡ true → (c == b) ≡ true → (a == b) ≡ true
same_test a b c p q = grind (arith, nat_tests)

put_step : (a b : ℕ) (hook : Hook) (e : ℕ × Hook) (es : List (ℕ × Hook)) (p q : Bool) → (a == e.0) ≡ q
    → hook_at (hook_put a hook es) b ≡ cond (a == b) (Some hook) (hook_at es b)
    → hook_at (cond p ((a, hook) ∷ e ∷ es) (cond q ((a, hook) ∷ es) (e ∷ hook_put a hook es))) b
    ≡ cond (a == b) (Some hook) (hook_at (e ∷ es) b)
unfolding hook_at
put_step a b hook e es true q same later = refl
put_step a b hook e es false true same later =
    cover (a == b) (e.0 == b) (Some hook) (Some e.1) (hook_at es b) (same_test a b e.0 same)
put_step a b hook e es false false same later =
    ap (λ o. cond (e.0 == b) (Some e.1) o) later
    ∙ swap (e.0 == b) (a == b) (Some e.1) (Some hook) (hook_at es b) (λ r t. apart_test a b e.0 same r t)

put_at : (a b : ℕ) (hook : Hook) (es : List (ℕ × Hook))
    → hook_at (hook_put a hook es) b ≡ cond (a == b) (Some hook) (hook_at es b)
unfolding hook_at hook_put
put_at a b hook [] = refl
put_at a b hook (e ∷ es) = put_step a b hook e es (nat_lt a e.0) (a == e.0) refl (put_at a b hook es)

put_rise : (n a : ℕ) (hook : Hook) (e : ℕ × Hook) (es : List (ℕ × Hook)) (p q : Bool) → n ≤ a → Rises n (e ∷ es)
    → (p ≡ true → a < e.0) → (q ≡ true → a ≡ e.0) → (p ≡ false → q ≡ false → e.0 < a)
    → (suc e.0 ≤ a → Rises (suc e.0) (hook_put a hook es))
    → Rises n (cond p ((a, hook) ∷ e ∷ es) (cond q ((a, hook) ∷ es) (e ∷ hook_put a hook es)))
put_rise n a hook e es true q low h before level after later = (low, (before refl, h.1))
put_rise n a hook e es false true low h before level after later =
    (low, subst (λ m. Rises (suc m) es) (sym (level refl)) h.1)
put_rise n a hook e es false false low h before level after later = (h.0, later (after refl refl))

put_rises : (n a : ℕ) (hook : Hook) (es : List (ℕ × Hook)) → n ≤ a → Rises n es → Rises n (hook_put a hook es)
unfolding hook_put
put_rises n a hook [] low h = (low, tt)
put_rises n a hook (e ∷ es) low h =
    put_rise n a hook e es (nat_lt a e.0) (a == e.0) low h
    (λ t. grind (arith, nat_tests)) (λ t. grind (arith, nat_tests)) (λ t u. grind (arith, nat_tests))
    (λ past. put_rises (suc e.0) a hook es past h.1)

-- what symbols give to an address --

-- one symbol
abbrev pub given : List ℕ → Symbol → ℕ → Option Hook
given strings symbol a = cond (symbol.value == a) (hook_named (name_from strings symbol.name)) None

-- the first of several that gives one
unfoldable pub first_given : List ℕ → List Symbol → ℕ → Option Hook
first_given strings [] a = None
first_given strings (symbol ∷ symbols) a = option_or (given strings symbol a) (first_given strings symbols a)

put_if_at : (v a : ℕ) (found : Option Hook) (es : List (ℕ × Hook)) (b : Bool) → (v == a) ≡ b
    → hook_at (hook_put_if v found es) a ≡ option_or (cond b found None) (hook_at es a)
put_if_at v a None es true e = refl
put_if_at v a None es false e = refl
put_if_at v a (Some hook) es true e = put_at v a hook es ∙ ap (λ b. cond b (Some hook) (hook_at es a)) e
put_if_at v a (Some hook) es false e = put_at v a hook es ∙ ap (λ b. cond b (Some hook) (hook_at es a)) e

by_first : (strings : List ℕ) (symbols : List Symbol) (a : ℕ)
    → hook_at (hooks_by strings symbols) a ≡ first_given strings symbols a
unfolding hook_at hooks_by first_given
by_first strings [] a = refl
by_first strings (s ∷ ss) a =
    put_if_at s.value a (hook_named (name_from strings s.name)) (hooks_by strings ss) (s.value == a) refl
    ∙ ap (option_or (given strings s a)) (by_first strings ss a)

put_if_rises : (v : ℕ) (found : Option Hook) (es : List (ℕ × Hook)) → Rises 0 es → Rises 0 (hook_put_if v found es)
put_if_rises v None es h = h
put_if_rises v (Some hook) es h = put_rises 0 v hook es (omega arith) h

by_rises : (strings : List ℕ) (symbols : List Symbol) → Rises 0 (hooks_by strings symbols)
unfolding hooks_by
by_rises strings [] = tt
by_rises strings (s ∷ ss) =
    put_if_rises s.value (hook_named (name_from strings s.name)) (hooks_by strings ss) (by_rises strings ss)

pub hooks_rise : (strings : List ℕ) (symbols : List Symbol) (es : List (ℕ × Hook)) → es ≡ hooks_by strings symbols
    → IsRising es
hooks_rise strings symbols es same =
    subst IsRising (sym same) (rise 0 (hooks_by strings symbols) (by_rises strings symbols))

pub hooks_in_order : (strings : List ℕ) (symbols : List Symbol) (es : List (ℕ × Hook)) → es ≡ hooks_by strings symbols
    → IsNonDecreasingBy (λ (e : ℕ × Hook). e.0) es
hooks_in_order strings symbols es same = rising_sorted es (hooks_rise strings symbols es same)

-- a list that rises and gives what symbols give is that of the symbols
pub hooks_are : (strings : List ℕ) (symbols : List Symbol) (es : List (ℕ × Hook)) → Rises 0 es
    → ((a : ℕ) → hook_at es a ≡ first_given strings symbols a) → es ≡ hooks_by strings symbols
hooks_are strings symbols es h same =
    one_list 0 0 es (hooks_by strings symbols) h (by_rises strings symbols) (λ a. same a
    ∙ sym (by_first strings symbols a))

-- a stable sort by value keeps the first at each address --

abbrev at_value : ℕ → Symbol → Bool
at_value a t = t.value == a

filtered_step : (strings : List ℕ) (a : ℕ) (s : Symbol) (kept : List Symbol) (later : Option Hook) (b : Bool)
    → (s.value == a) ≡ b
    → later ≡ first_given strings kept a
    → option_or (cond b (hook_named (name_from strings s.name)) None) later
    ≡ first_given strings (cond b (s ∷ kept) kept) a
unfolding first_given
filtered_step strings a s kept later true e same =
    ap (option_or (hook_named (name_from strings s.name))) same
    ∙ ap (λ b. option_or (cond b (hook_named (name_from strings s.name)) None) (first_given strings kept a)) (sym e)
filtered_step strings a s kept later false e same = same

filtered : (strings : List ℕ) (a : ℕ) (symbols : List Symbol)
    → first_given strings symbols a ≡ first_given strings (filter (at_value a) symbols) a
unfolding first_given
filtered strings a [] = refl
filtered strings a (s ∷ ss) =
    filtered_step strings a s (filter (at_value a) ss) (first_given strings ss a) (s.value == a) refl
    (filtered strings a ss)

filter_alike : (p q : Symbol → Bool) → ((t : Symbol) → p t ≡ q t) → (xs : List Symbol) → filter p xs ≡ filter q xs
filter_alike p q same [] = refl
filter_alike p q same (x ∷ xs) = λ i. cond (same x i) (x ∷ filter_alike p q same xs i) (filter_alike p q same xs i)

abbrev lower : Symbol → Symbol → Bool
lower s t = is_lt (nat_cmp s.value t.value)

tie : (m n : ℕ) → (n == m) ≡ (not (is_lt (nat_cmp m n)) && not (is_lt (nat_cmp n m)))
tie m n = grind (arith, nat_tests)

symbol_at_value : ℕ → Symbol
symbol_at_value a = record { name = 0; value = a; size = 0; info = 0; section = 0 }

given_sorted : (strings : List ℕ) (a : ℕ) (xs ys : List Symbol) → IsStableByKey (λ (t : Symbol). t.value) nat_cmp xs ys
    → first_given strings ys a ≡ first_given strings xs a
unfolding symbol_at_value
given_sorted strings a xs ys stable =
    let s = symbol_at_value a in
    let alike = λ (t : Symbol). tie a t.value in
    filtered strings a ys
    ∙ ap (λ l. first_given strings l a) (filter_alike (at_value a) (ties lower s) alike ys ∙ stable s
    ∙ sym (filter_alike (at_value a) (ties lower s) alike xs))
    ∙ sym (filtered strings a xs)

pub hooks_of_sorted : (strings : List ℕ) (xs ys : List Symbol) → IsStableByKey (λ (t : Symbol). t.value) nat_cmp xs ys
    → hooks_by strings ys ≡ hooks_by strings xs
hooks_of_sorted strings xs ys stable =
    hooks_are strings xs (hooks_by strings ys) (by_rises strings ys) (λ a. by_first strings ys a
    ∙ given_sorted strings a xs ys stable)

-- another symbol, of symbols in the order of their addresses --

-- a list of functions and what later symbols give
abbrev pub found_at : List ℕ → List (ℕ × Hook) → List Symbol → ℕ → Option Hook
found_at strings es symbols a = option_or (hook_at es a) (first_given strings symbols a)

more_at : (es : List (ℕ × Hook)) (v a : ℕ) (hook : Hook)
    → hook_at (es ++ (v, hook) ∷ []) a ≡ option_or (hook_at es a) (cond (v == a) (Some hook) None)
unfolding hook_at
more_at [] v a hook = refl
more_at (e ∷ es) v a hook = go (e.0 == a) (more_at es v a hook)
  where
    go : (b : Bool) → hook_at (es ++ (v, hook) ∷ []) a ≡ option_or (hook_at es a) (cond (v == a) (Some hook) None)
        → cond b (Some e.1) (hook_at (es ++ (v, hook) ∷ []) a)
        ≡ option_or (cond b (Some e.1) (hook_at es a)) (cond (v == a) (Some hook) None)
    go true later = refl
    go false later = later

or_or : (x y z : Option Hook) → option_or (option_or x y) z ≡ option_or x (option_or y z)
or_or None y z = refl
or_or (Some x) y z = refl

-- the symbol gives a function to an address that had none
pub found_taken : (strings : List ℕ) (es : List (ℕ × Hook)) (s : Symbol) (ss : List Symbol) (hook : Hook) (a : ℕ)
    → hook_named (name_from strings s.name) ≡ Some hook
    → found_at strings (es ++ (s.value, hook) ∷ []) ss a ≡ found_at strings es (s ∷ ss) a
unfolding first_given
found_taken strings es s ss hook a named =
    ap (λ o. option_or o (first_given strings ss a)) (more_at es s.value a hook)
    ∙ or_or (hook_at es a) (cond (s.value == a) (Some hook) None) (first_given strings ss a)
    ∙ ap (λ o. option_or (hook_at es a) (option_or (cond (s.value == a) o None) (first_given strings ss a))) (sym named)

none_if : (b : Bool) (o : Option Hook) → o ≡ None → None ≡ cond b o None
none_if true o none = sym none
none_if false o none = refl

-- it gives none
pub found_none : (strings : List ℕ) (es : List (ℕ × Hook)) (s : Symbol) (ss : List Symbol) (a : ℕ)
    → hook_named (name_from strings s.name) ≡ None → found_at strings es ss a ≡ found_at strings es (s ∷ ss) a
unfolding first_given
found_none strings es s ss a named =
    ap (λ o. option_or (hook_at es a) (option_or o (first_given strings ss a)))
    (none_if (s.value == a) (hook_named (name_from strings s.name)) named)

-- its address has a function
pub found_before : (strings : List ℕ) (es : List (ℕ × Hook)) (s : Symbol) (ss : List Symbol) (a : ℕ)
    → is_some (hook_at es s.value) ≡ true → found_at strings es ss a ≡ found_at strings es (s ∷ ss) a
unfolding first_given
found_before strings es s ss a had = go (s.value == a) refl (hook_at es a) refl
  where
    go : (b : Bool) → (s.value == a) ≡ b → (o : Option Hook) → hook_at es a ≡ o
        → option_or o (first_given strings ss a)
        ≡ option_or o (option_or (cond b (hook_named (name_from strings s.name)) None) (first_given strings ss a))
    go b e (Some hook) o = refl
    go false e None o = refl
    go true e None o =
        absurd (let no : false ≡ true = ap is_some (sym o)
        ∙ ap (λ x. is_some (hook_at es x)) (sym (number_is s.value a e)) ∙ had in cc)

-- where one was put there is one
pub has_more : (es : List (ℕ × Hook)) (v : ℕ) (hook : Hook) → is_some (hook_at (es ++ (v, hook) ∷ []) v) ≡ true
has_more es v hook =
    ap is_some (more_at es v v hook ∙ ap (λ b. option_or (hook_at es v) (cond b (Some hook) None)) (same_number v))
    ∙ go (hook_at es v)
  where
    go : (o : Option Hook) → is_some (option_or o (Some hook)) ≡ true
    go None = refl
    go (Some h) = refl

-- a loop over symbols in the order of their addresses: what was put so far, and the end of its addresses
pub record Gathered (strings : List ℕ) (symbols : List Symbol) (es : List (ℕ × Hook)) (index end : ℕ) : Type 0 where
  pub within : Within 0 end es
  pub up : (j : ℕ) (d : Symbol) → index ≤ j → j < length symbols → end ≤ suc (get_or symbols j d).value
  pub taken : (v : ℕ) → suc v ≡ end → is_some (hook_at es v) ≡ true
  pub found : (a : ℕ) → found_at strings es (drop index symbols) a ≡ first_given strings symbols a

pub gathered-start : (strings : List ℕ) (symbols : List Symbol) → Gathered strings symbols [] 0 0
unfolding hook_at
gathered-start strings symbols = record {
  within = omega arith;
  up = λ j d from inside. omega arith;
  taken = λ v e. absurd (omega (arith, e));
  found = λ a. refl;
}

pub gathered-end : (strings : List ℕ) (symbols : List Symbol) (es : List (ℕ × Hook)) (index end : ℕ)
    → length symbols ≤ index
    → Gathered strings symbols es index end → es ≡ hooks_by strings symbols
unfolding first_given
gathered-end strings symbols es index end past g =
    hooks_are strings symbols es (within_rises 0 end es g.within)
    (λ a. sym (alone (hook_at es a)) ∙ sym (ap (λ ss. found_at strings es ss a) (drop_all index symbols past))
    ∙ g.found a)
  where
    alone : (o : Option Hook) → option_or o None ≡ o
    alone None = refl
    alone (Some h) = refl

-- the symbol at the index gives nothing new
kept : (strings : List ℕ) (symbols : List Symbol) (es : List (ℕ × Hook)) (index end : ℕ) (d : Symbol)
    → index < length symbols
    → ((a : ℕ) → found_at strings es (drop (index + 1) symbols) a
    ≡ found_at strings es (get_or symbols index d ∷ drop (index + 1) symbols) a)
    → Gathered strings symbols es index end → Gathered strings symbols es (index + 1) end
kept strings symbols es index end d listed same g = record {
  within = g.within;
  up = λ j e from inside. g.up j e (omega (arith, from)) inside;
  taken = g.taken;
  found = λ a. same a ∙ ap (λ ss. found_at strings es ss a) (sym (drop_more symbols index d listed)) ∙ g.found a;
}

pub gathered-before : (strings : List ℕ) (symbols : List Symbol) (es : List (ℕ × Hook)) (index end : ℕ) (d : Symbol)
    → index < length symbols
    → (get_or symbols index d).value < end → Gathered strings symbols es index end
    → Gathered strings symbols es (index + 1) end
gathered-before strings symbols es index end d listed below g =
    let up = g.up index d (omega arith) listed in
    kept strings symbols es index end d listed
    (λ a. found_before strings es (get_or symbols index d) (drop (index + 1) symbols) a
    (g.taken (get_or symbols index d).value (omega (arith, below, up)))) g

pub gathered-none : (strings : List ℕ) (symbols : List Symbol) (es : List (ℕ × Hook)) (index end : ℕ) (d : Symbol)
    → index < length symbols
    → hook_named (name_from strings (get_or symbols index d).name) ≡ None → Gathered strings symbols es index end
    → Gathered strings symbols es (index + 1) end
gathered-none strings symbols es index end d listed named g =
    kept strings symbols es index end d listed
    (λ a. found_none strings es (get_or symbols index d) (drop (index + 1) symbols) a named) g

-- it gives a function to an address past the end
pub gathered-more : (strings : List ℕ) (symbols : List Symbol) (es : List (ℕ × Hook)) (index end more : ℕ) (d : Symbol)
    (hook : Hook)
    → more ≡ suc (get_or symbols index d).value → IsNonDecreasingBy (λ (t : Symbol). t.value) symbols
    → index < length symbols → end ≤ (get_or symbols index d).value
    → hook_named (name_from strings (get_or symbols index d).name) ≡ Some hook → Gathered strings symbols es index end
    → Gathered strings symbols (es ++ ((get_or symbols index d).value, hook) ∷ []) (index + 1) more
gathered-more strings symbols es index end more d hook next sorted listed past named g =
    let s = get_or symbols index d in record {
      within =
          subst (λ n. Within 0 n (es ++ (s.value, hook) ∷ [])) (sym next)
          (within_more 0 end s.value hook es past g.within);
      up = λ j e from inside.
          let level : (get_or symbols index e).value ≡ s.value = ap (λ (t : Symbol). t.value)
          (get_or_default symbols index e d listed) in
          let high = sorted index j e (omega (arith, from)) inside in
          omega (arith, next, level, high);
      taken = λ v e.
          let here : v ≡ s.value = omega (arith, e, next) in
          ap (λ w. is_some (hook_at (es ++ (s.value, hook) ∷ []) w)) here ∙ has_more es s.value hook;
      found = λ a. found_taken strings es s (drop (index + 1) symbols) hook a named
          ∙ ap (λ ss. found_at strings es ss a) (sym (drop_more symbols index d listed)) ∙ g.found a;
    }

-- a name by its front --

first_step : (b : Bool) (x n : ℕ) (xs : List ℕ) → take (cond (not b) (1 + n) 0) (x ∷ xs) ≡ cond b [] (x ∷ take n xs)
first_step true x n xs = refl
first_step false x n xs = let one : 1 + n ≡ suc n = omega arith in ap (λ m. take m (x ∷ xs)) one

before : (x : ℕ) (xs : List ℕ) → before_first is_zero (x ∷ xs) ≡ cond (is_zero x) [] (x ∷ before_first is_zero xs)
before x xs = first_step (is_zero x) x (position_or_len is_zero xs) xs

name_step : (n x : ℕ) (xs ys name : List ℕ) (b : Bool) → length name < suc n
    → ((rest : List ℕ) → length rest < n → bytes_eq xs rest ≡ bytes_eq ys rest)
    → bytes_eq (cond b [] (x ∷ xs)) name ≡ bytes_eq (cond b [] (x ∷ ys)) name
name_step n x xs ys name true short later = refl
name_step n x xs ys [] false short later = refl
name_step n x xs ys (c ∷ rest) false short later = ap (λ t. nat_eq x c && t) (later rest (omega (arith, short)))

-- a name shorter than n is known by its first n bytes
pub by_front : (n : ℕ) (bytes name : List ℕ) → length name < n
    → bytes_eq (before_first is_zero (take n bytes)) name ≡ bytes_eq (before_first is_zero bytes) name
by_front zero bytes name short = absurd (omega (arith, short))
by_front (suc n) [] name short = refl
by_front (suc n) (x ∷ xs) name short =
    ap (λ l. bytes_eq l name) (before x (take n xs))
    ∙ name_step n x (before_first is_zero (take n xs)) (before_first is_zero xs) name (is_zero x) short
    (λ rest s. by_front n xs rest s)
    ∙ sym (ap (λ l. bytes_eq l name) (before x xs))

pub named_by_front : (n : ℕ) (bytes : List ℕ) → 7 < n
    → hook_named (before_first is_zero (take n bytes)) ≡ hook_named (before_first is_zero bytes)
unfolding hook_named
named_by_front n bytes long = λ i.
    cond (by_front n bytes (codes "malloc") (omega (arith, long)) i) (Some Hook.Malloc)
    (cond (by_front n bytes (codes "free") (omega (arith, long)) i) (Some Hook.Free)
    (cond (by_front n bytes (codes "calloc") (omega (arith, long)) i) (Some Hook.Calloc)
    (cond (by_front n bytes (codes "realloc") (omega (arith, long)) i) (Some Hook.Realloc) None)))

-- the first eight bytes from a place on determine it
pub named_at_front : (strings : List ℕ) (start from len : ℕ) → from ≡ min (length strings) start
    → len ≡ min (length (take (length strings - from) (drop from strings))) 8
    → hook_named (name_from (take len (take (length strings - from) (drop from strings))) 0)
    ≡ hook_named (name_from strings start)
unfolding name_from
named_at_front strings start from len place enough =
    let rest = take (length strings - from) (drop from strings) in
    let all : rest ≡ drop start strings =
    take_rest strings from ∙ ap (λ n. drop n strings) (place ∙ min_comm (length strings) start)
    ∙ drop_min start strings in
    ap (λ n. hook_named (before_first is_zero (take n rest))) (enough ∙ min_comm (length rest) 8)
    ∙ ap (λ l. hook_named (before_first is_zero l)) (take_min 8 rest)
    ∙ named_by_front 8 rest (omega arith)
    ∙ ap (λ l. hook_named (before_first is_zero l)) all

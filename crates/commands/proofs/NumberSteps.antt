-- The number that a field's digits write.
use Rattle.std.proofs.Common.{◌≡◌, ℕ, ◌+◌, ◌*◌, ◌^◌, ◌<◌, ◌≤◌, nat_lt, List, [], ◌∷◌, Bool, true, false, cond, Some}
use Rattle.std.proofs.Common.{None, Result, Ok, Err, lt-ltb, le-ltb, ◌∙◌, take}
use Rattle.std.proofs.Common.{length, get_or, arith, length-take, lit<}
use Rattle.std.specs.List.{list_all}
use Rattle.std.specs.Result.{OkIff, result_ok}
use Rattle.std.specs.Char.{digit_value}
use Rattle.std.specs.Str.Parse.{digits_value, AllDigits}
use Rattle.std.proofs.lemmas.List.Folds.{list_all_at, list_all_more}
use Rattle.std.proofs.lemmas.Bool.Decides.{nat_tests}
use Rattle.std.proofs.lemmas.Int.Digits.{digits_value-lt, digits_value_more}
use Rattle.std.proofs.Math.Nat.{pow-le-pow_left, pow-le-pow_right}
use Rattle.commands.specs.Commands.{number_in, is_numeral}

-- is a byte a digit of a base?
abbrev pub digit_of : ℕ → ℕ → Bool
digit_of base c = nat_lt (digit_value c) base

all_digits : (base : ℕ) (ds : List ℕ) → list_all (digit_of base) ds ≡ true → AllDigits base ds
all_digits base [] e = tt
all_digits base (c ∷ cs) e =
    let first : digit_of base c ≡ true = grind (arith, nat_tests) in
    let others : list_all (digit_of base) cs ≡ true = grind (arith, nat_tests) in
    (grind (arith, nat_tests), all_digits base cs others)

-- ten digits of a base up to 16 are worth less than 2^40
pub worth_of_ten : (base i : ℕ) (ds : List ℕ) → base ≤ 16 → length ds ≤ 10 → list_all (digit_of base) (take i ds) ≡ true
    → digits_value base (take i ds) < 2 ^ 40
worth_of_ten base i ds low short pass =
    let n = length (take i ds) in
    let most : length (take i ds) ≤ 10 = omega (arith, length-take i ds) in
    let below : digits_value base (take i ds) < base ^ n = digits_value-lt base (take i ds)
    (all_digits base (take i ds) pass) in
    let larger_base : base ^ n ≤ 16 ^ n = pow-le-pow_left low n in
    let longer : 16 ^ n ≤ 16 ^ 10 = pow-le-pow_right (lit< tt) most in
    omega arith

-- a field that is empty, that is too long, or that has another byte is no number
pub refused : (base most : ℕ) (ds : List ℕ) → is_numeral base most ds ≡ false → number_in base most ds ≡ None
unfolding number_in
refused base most ds e = rw e

pub counted : (base most : ℕ) (ds : List ℕ) → is_numeral base most ds ≡ true
    → number_in base most ds ≡ cond (nat_lt (digits_value base ds) (2 ^ 32)) (Some (digits_value base ds)) None
unfolding number_in
counted base most ds e = rw e

pub none_where_empty : (base most : ℕ) (ds : List ℕ) → length ds ≤ 0 → number_in base most ds ≡ None
none_where_empty base most ds h = refused base most ds (grind (arith, nat_tests))

pub none_where_long : (base most : ℕ) (ds : List ℕ) → most < length ds → number_in base most ds ≡ None
none_where_long base most ds h = refused base most ds (grind (arith, nat_tests))

pub none_at_other_byte : (base most i : ℕ) (ds : List ℕ) → i < length ds → base ≤ digit_value (get_or ds i 0)
    → number_in base most ds ≡ None
none_at_other_byte base most i ds within large =
    let other : digit_of base (get_or ds i 0) ≡ false = grind (arith, nat_tests) in
    let fails = list_all_at (digit_of base) ds i 0 within other in
    refused base most ds (rw fails (grind (arith, nat_tests)))

-- a number of the length asked, whose bytes are all digits, is what they write
pub counted_where_digits : (base most : ℕ) (ds : List ℕ) → 0 < length ds → length ds ≤ most
    → list_all (digit_of base) ds ≡ true
    → number_in base most ds ≡ cond (nat_lt (digits_value base ds) (2 ^ 32)) (Some (digits_value base ds)) None
counted_where_digits base most ds some short pass = counted base most ds (grind (arith, nat_tests))

-- another digit
pub digit_more : (base i value digit : ℕ) (ds : List ℕ) → i < length ds → digit ≡ digit_value (get_or ds i 0)
    → digit < base
    → list_all (digit_of base) (take i ds) ≡ true → value ≡ digits_value base (take i ds)
    → (list_all (digit_of base) (take (i + 1) ds) ≡ true) × (value * base + digit ≡ digits_value base (take (i + 1) ds))
digit_more base i value digit ds within is low pass so_far =
    let this : digit_of base (get_or ds i 0) ≡ true = grind (arith, nat_tests) in (
      list_all_more (digit_of base) ds i 0 within ∙ rw (pass, this),
      rw (digits_value_more base ds i within, ← so_far, ← is),
    )

-- a number that is kept where it has at most 32 bits
pub narrowed : {E : Type 0} (n : ℕ) (r : Result ℕ E) → OkIff r (n < 2 ^ 32) n
    → result_ok r ≡ cond (nat_lt n (2 ^ 32)) (Some n) None
narrowed n (Ok x) h = rw (lt-ltb n (2 ^ 32) h.0, h.1)
narrowed n (Err e) h = rw (le-ltb n (2 ^ 32) (omega (arith, h)))

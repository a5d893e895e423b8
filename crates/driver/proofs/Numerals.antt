-- Fields of digits and letters, and the numbers that they write.
use Rattle.std.proofs.Common.{◌≡◌, ℕ, ◌^◌, ◌<◌, ◌≤◌, ◌==◌, nat_lt, List, [], ◌∷◌, true, false, Some, refl, ◌∙◌, length}
use Rattle.std.proofs.Common.{arith, lt-ltb}
use Rattle.std.specs.Char.{digit_value}
use Rattle.std.specs.List.{All, list_all}
use Rattle.std.specs.Str.Parse.{AllDigits, digits_value}
use Rattle.std.proofs.lemmas.List.Elements.{All-nil, All-cons}
use Rattle.std.proofs.lemmas.Bool.Decides.{nat_tests}
use Rattle.commands.specs.Commands.{number_in}
use Rattle.commands.proofs.NumberSteps.{counted_where_digits}

-- digits of a base are digits of a greater one
pub in_greater_base : (low high : ℕ) (ds : List ℕ) → low ≤ high → AllDigits low ds → AllDigits high ds
in_greater_base low high [] le d = tt
in_greater_base low high (c ∷ cs) le d = (omega (arith, d.0), in_greater_base low high cs le d.1)

-- each byte passes the test for a digit
all_pass : (base : ℕ) (ds : List ℕ) → AllDigits base ds → list_all (λ c. nat_lt (digit_value c) base) ds ≡ true
all_pass base [] d = refl
all_pass base (c ∷ cs) d = rw (lt-ltb (digit_value c) base d.0) (all_pass base cs d.1)

-- no digit and no letter is a space
pub no_space : (ds : List ℕ) → AllDigits 36 ds → All (λ c. (c == 32) ≡ false) ds
no_space [] d = All-nil (λ c. (c == 32) ≡ false)
no_space (c ∷ cs) d =
    let other : (c == 32) ≡ false = grind (arith, nat_tests, d.0) in
    All-cons (λ c. (c == 32) ≡ false) c cs other (no_space cs d.1)

-- the number that some digits write, where it is below 2^32
pub number_of_digits : (base most n : ℕ) (ds : List ℕ) → 0 < length ds → length ds ≤ most → AllDigits base ds
    → digits_value base ds ≡ n → n < 2 ^ 32 → number_in base most ds ≡ Some n
number_of_digits base most n ds some short d is fits =
    counted_where_digits base most ds some short (all_pass base ds d) ∙ rw (is, lt-ltb n (2 ^ 32) fits)

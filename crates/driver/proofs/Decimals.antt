-- How a number that is written in decimal is read.
use Rattle.std.proofs.Common.{◌≡◌, ℕ, ◌^◌, ◌<◌, ◌≤◌, nat_eq, List, [], ◌∷◌, false, Some, refl, length, arith, codes}
use Rattle.std.proofs.Common.{decimal, bytes_eq}
use Rattle.std.specs.List.{starts_with}
use Rattle.std.specs.Str.Parse.{AllDigits}
use Rattle.std.proofs.lemmas.Fmt.{decimal_is_IsNumeral, length-decimal-le}
use Rattle.std.proofs.lemmas.Bool.Decides.{nat_tests}
use Rattle.commands.specs.Commands.{number}
use Rattle.driver.proofs.Numerals.{in_greater_base, number_of_digits}

-- decimal digits begin no hexadecimal number, and are no word that begins with a letter
not_hexadecimal : (ds : List ℕ) → AllDigits 10 ds → starts_with nat_eq ds (codes "0x") ≡ false
not_hexadecimal [] d = refl
not_hexadecimal (c ∷ []) d = grind (arith, nat_tests)
not_hexadecimal (c ∷ e ∷ cs) d =
    let other : nat_eq 120 e ≡ false = grind (arith, nat_tests, d.1.0) in
    grind (arith, nat_tests, other)

pub not_word : (first : ℕ) (more ds : List ℕ) → 57 < first → AllDigits 10 ds → bytes_eq ds (first ∷ more) ≡ false
not_word first more [] letter d = refl
not_word first more (c ∷ cs) letter d =
    let other : nat_eq c first ≡ false = grind (arith, nat_tests, d.0) in
    rw other

-- what is written of a number below 2^32
module _ (n : ℕ) (fits : n < 2 ^ 32) where
  pub decimal_digits : AllDigits 10 (decimal n)
  decimal_digits = (decimal_is_IsNumeral n (omega arith)).0.1

  pub decimal_some : 0 < length (decimal n)
  decimal_some = (decimal_is_IsNumeral n (omega arith)).0.0

  pub decimal_short : length (decimal n) ≤ 10
  decimal_short = length-decimal-le 10 n (omega arith) (omega arith) (omega arith)

  pub decimal_plain : AllDigits 36 (decimal n)
  decimal_plain = in_greater_base 10 36 (decimal n) (omega arith) decimal_digits

  pub number_of_decimal : number (decimal n) ≡ Some n
  unfolding number
  number_of_decimal = rw (not_hexadecimal (decimal n) decimal_digits)
      (number_of_digits 10 10 n (decimal n) decimal_some decimal_short decimal_digits
      (decimal_is_IsNumeral n (omega arith)).1 fits)

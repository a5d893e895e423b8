-- How a number that is written as an address is read: `0x` and eight hexadecimal digits; and one of 16 bits, with four.
use Rattle.std.proofs.Common.{◌≡◌, ℕ, zero, suc, ◌+◌, ◌*◌, ◌/◌, ◌%◌, ◌^◌, ◌<◌, List, [], ◌∷◌, map, false, Some, refl}
use Rattle.std.proofs.Common.{sym, ap, ◌∙◌, length, arith, pow-suc, div-one}
use Rattle.std.specs.Char.{digit_value}
use Rattle.std.specs.Fmt.{digit_glyph}
use Rattle.std.specs.Str.Parse.{AllDigits, digits_value, digits_value_after}
use Rattle.std.proofs.lemmas.Bool.Decides.{nat_tests}
use native.Mathlib.Nat.{div-div-eq-div-mul}
use Rattle.report_lines.specs.Text.{address_text, hex_digit}
use Rattle.commands.specs.Commands.{number}
use Rattle.sweeps.specs.Tables.{half_text}
use Rattle.driver.proofs.Numerals.{in_greater_base, number_of_digits}

-- a hexadecimal digit is read as the value that it was written for
glyph_value : (d : ℕ) → d < 16 → digit_value (digit_glyph false d) ≡ d
glyph_value d low = grind (arith, nat_tests)

hex_digit_value : (n k : ℕ) → digit_value (hex_digit n k) ≡ n / 16 ^ k % 16
hex_digit_value n k = glyph_value (n / 16 ^ k % 16) (omega arith)

-- the places of a number of digits, from the highest on
abbrev places : ℕ → List ℕ
places zero = []
places (suc k) = k ∷ places k

all_hexadecimal : (n k : ℕ) → AllDigits 16 (map (hex_digit n) (places k))
all_hexadecimal n zero = tt
all_hexadecimal n (suc k) = (omega (arith, hex_digit_value n k), all_hexadecimal n k)

-- a number without its last k digits is one digit and what is left without k + 1
one_digit : (n k : ℕ) → n / 16 ^ suc k * 16 + n / 16 ^ k % 16 ≡ n / 16 ^ k
one_digit n k =
    let less : n / 16 ^ suc k ≡ n / 16 ^ k / 16 = ap (λ m. n / m) (pow-suc 16 k)
    ∙ sym (div-div-eq-div-mul n (16 ^ k) 16) in
    omega (arith, less)

-- what the last k digits write after those before
value_of_places : (n k : ℕ) → digits_value_after 16 (n / 16 ^ k) (map (hex_digit n) (places k)) ≡ n
value_of_places n zero = div-one n
value_of_places n (suc k) =
    ap (λ m. digits_value_after 16 m (map (hex_digit n) (places k)))
    (ap (λ d. n / 16 ^ suc k * 16 + d) (hex_digit_value n k) ∙ one_digit n k) ∙ value_of_places n k

-- what is written of a number below 2^32
module _ (n : ℕ) (fits : n < 2 ^ 32) where
  eight_digits : digits_value 16 (map (hex_digit n) (places 8)) ≡ n
  eight_digits =
      let nothing : n / 16 ^ 8 ≡ 0 = omega arith in
      ap (λ m. digits_value_after 16 m (map (hex_digit n) (places 8))) (sym nothing) ∙ value_of_places n 8

  pub number_of_address : number (address_text n) ≡ Some n
  unfolding number address_text
  number_of_address =
      number_of_digits 16 8 n (map (hex_digit n) (places 8)) (omega arith) (omega arith) (all_hexadecimal n 8)
      eight_digits fits

  pub address_plain : AllDigits 36 (address_text n)
  unfolding address_text
  address_plain = (
    omega arith,
    (
      omega arith,
      in_greater_base 16 36 (map (hex_digit n) (places 8)) (omega arith)
          (all_hexadecimal n 8),
    ),
  )

  pub address_length : length (address_text n) ≡ 10
  unfolding address_text
  address_length = refl

-- what is written of a number below 2^16
module _ (n : ℕ) (fits : n < 2 ^ 16) where
  four_digits : digits_value 16 (map (hex_digit n) (places 4)) ≡ n
  four_digits =
      let nothing : n / 16 ^ 4 ≡ 0 = omega arith in
      ap (λ m. digits_value_after 16 m (map (hex_digit n) (places 4))) (sym nothing) ∙ value_of_places n 4

  pub number_of_half : number (half_text n) ≡ Some n
  unfolding number half_text
  number_of_half =
      number_of_digits 16 8 n (map (hex_digit n) (places 4)) (omega arith) (omega arith) (all_hexadecimal n 4)
      four_digits (omega arith)

  pub half_plain : AllDigits 36 (half_text n)
  unfolding half_text
  half_plain = (
    omega arith,
    (
      omega arith,
      in_greater_base 16 36 (map (hex_digit n) (places 4)) (omega arith)
          (all_hexadecimal n 4),
    ),
  )

  pub half_length : length (half_text n) ≡ 6
  unfolding half_text
  half_length = refl

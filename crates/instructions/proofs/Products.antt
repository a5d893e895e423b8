-- The upper half of a product of 64 bits.
use Rattle.std.proofs.Common.{◌≡◌, ◌-◌, ◌<◌, ◌≤◌, ◌^◌, ◌∙◌, ap, ap₂, arith}
use lib.IntN.{ℤ, pos, negsuc, ◌*ℤ◌}
use lib.Signed.{mag}
use Rattle.std.specs.Int.{w64, int_wrapping_mul}
use Rattle.std.specs.Int.RustNames.{unsigned_abs}
use Rattle.std.proofs.lemmas.Int.{wrapping_mul_is, int_wrap_fits, fits_signed_mul}
use Rattle.definedness.specs.Operations.{upper_word}

-- a signed number of 32 bits is at most 2^31 away from 0
abs_le : (z : ℤ) → mag z < 2 ^ 31 → unsigned_abs z ≤ 2 ^ 31
abs_le (pos n) h = omega arith
abs_le (negsuc n) h = omega arith

-- the product of one and a number of 33 bits doesn't wrap
pub upper_product : (a b x y : ℤ) → a ≡ x → b ≡ y → mag x < 2 ^ 31 → mag y < 2 ^ 63 → unsigned_abs y < 2 ^ 32
    → upper_word (int_wrapping_mul w64 a b) ≡ upper_word (x *ℤ y)
upper_product a b x y e f h k few =
    ap₂ (λ m n. upper_word (int_wrapping_mul w64 m n)) e f
    ∙ ap upper_word (wrapping_mul_is w64 x y (record { sfits = omega arith }) (record { sfits = k })
    ∙ int_wrap_fits w64 (x *ℤ y) (fits_signed_mul w64 x y (2 ^ 31) (2 ^ 32 - 1) (abs_le x h) (omega arith)
    (omega arith)))

pub abs_few : (z : ℤ) → mag z < 2 ^ 31 → unsigned_abs z < 2 ^ 32
abs_few z h = let near : unsigned_abs z ≤ 2 ^ 31 = abs_le z h in omega arith

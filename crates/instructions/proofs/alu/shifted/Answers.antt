use Rattle.std.proofs.Common.{◌≡◌, ◌<◌, ◌^◌, ◌%◌, ◌∙◌, ap, sym, arith}
use Rattle.std.specs.Int.{w32, cast_signed, cast_unsigned, int_shr}
use Rattle.std.proofs.lemmas.Int.{of_z-to_z}
use Rattle.definedness.specs.Operations.{shift_of}
use Rattle.definedness.specs.declared.Shift.TheVariants.{Arith}
use Rattle.instructions.proofs.alu.shifted.Goals as goal

-- a shift of the signed number, as the casts of the code have it
pub returns-in-Arith : goal.returns-in-Arith
returns-in-Arith c =
    let x = c.args.x in
    let amount = c.args.amount in
    let below : x < 2 ^ 32 = omega arith in
    let law = c.arithmetic_shift.ensures x amount below in
    let back : cast_unsigned w32 c.cast_signed.result ≡ x = ap (cast_unsigned w32) c.cast_signed.ensures
    ∙ of_z-to_z w32 x below in
    let shifted : cast_unsigned w32 c.wrapping_shr-in-Arith.result ≡ shift_of Arith x amount =
    ap (cast_unsigned w32) c.wrapping_shr-in-Arith.ensures
    ∙ ap (λ n. cast_unsigned w32 (int_shr (cast_signed w32 n) (amount % 32))) back ∙ law.0 in
    c.cast_unsigned.ensures ∙ ap (λ n. cast_unsigned w32 (cast_signed w32 n)) shifted
    ∙ of_z-to_z w32 (shift_of Arith x amount) law.1
    ∙ ap (λ s. shift_of s x amount) (sym c.in-Arith.is)

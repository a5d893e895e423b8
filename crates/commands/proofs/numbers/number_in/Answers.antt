-- Each byte is a digit of the number, or the field is rejected.
use Rattle.std.proofs.Common.{◌*◌, ◌^◌, ◌<◌, ◌≤◌, length, take_all, sym, ◌∙◌, arith, rules}
use Rattle.std.proofs.Math.Nat.{mul-le-mul}
use Rattle.std.proofs.lemmas.Bool.Decides.{nat_tests}
use Rattle.commands.proofs.NumberSteps.{none_where_empty, none_where_long, none_at_other_byte}
use Rattle.commands.proofs.NumberSteps.{counted_where_digits, digit_more, worth_of_ten, narrowed}
use Rattle.commands.proofs.numbers.number_in.Goals as goal
use Rattle.commands.proofs.numbers.number_in.Goals.{then-is_empty-via-then-is_empty}
use Rattle.commands.proofs.numbers.number_in.Goals.{then-is_empty-via-else-is_empty+then-field-most}

pub returns-then-is_empty : goal.returns-then-is_empty
returns-then-is_empty c =
    let ds = c.args.field.now in
    elim c.then-is_empty.branch [
      | then-is_empty-via-then-is_empty w ↦ sym (none_where_empty c.args.base c.args.most ds (search rules))
      | then-is_empty-via-else-is_empty+then-field-most w ↦ sym
          (none_where_long c.args.base c.args.most ds (omega arith))
    ]

pub returns-then-digit-base : goal.returns-then-digit-base
returns-then-digit-base c =
    sym (none_at_other_byte c.args.base c.args.most c.loop-b.b-index c.args.field.now c.loop-b-test.true
    (omega (arith, c.digit_value-digit.ensures)))

pub overflow_mul-value : goal.overflow_mul-value
overflow_mul-value c =
    let small = worth_of_ten c.args.base c.loop-b.b-index c.args.field.now c.requires.base (omega arith)
    c.loop-b.invariant.0 in
    let value : c.loop-b.value ≤ 2 ^ 40 = omega (arith, c.loop-b.invariant.1) in
    let product : c.loop-b.value * c.args.base ≤ 2 ^ 40 * 16 = mul-le-mul value c.requires.base in
    omega arith

pub overflow_add-value : goal.overflow_add-value
overflow_add-value c =
    let small = worth_of_ten c.args.base c.loop-b.b-index c.args.field.now c.requires.base (omega arith)
    c.loop-b.invariant.0 in
    let value : c.loop-b.value ≤ 2 ^ 40 = omega (arith, c.loop-b.invariant.1) in
    let product : c.loop-b.value * c.args.base ≤ 2 ^ 40 * 16 = mul-le-mul value c.requires.base in
    omega arith

pub loop-b-preserved : goal.loop-b-preserved
loop-b-preserved c =
    digit_more c.args.base c.loop-b.b-index c.loop-b.value c.digit_value-digit.result c.args.field.now
    c.loop-b-test.true c.digit_value-digit.ensures
    c.if-digit-base.false c.loop-b.invariant.0 c.loop-b.invariant.1

pub returns : goal.returns
returns c =
    let ds = c.args.field.now in
    let all = take_all c.loop-b.b-index ds (omega arith) in
    let pass = rw all at c.loop-b.invariant.0 in
    let value = rw all at c.loop-b.invariant.1 in
    let kept = narrowed c.loop-b.value c.try_from.result c.try_from.ensures in
    let some : 0 < length ds = grind (arith, nat_tests) in
    let counted = counted_where_digits c.args.base c.args.most ds some (omega arith) pass in
    c.ok.ensures.value ∙ kept ∙ rw value (sym counted)

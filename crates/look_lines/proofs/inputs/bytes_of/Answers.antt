-- Each byte is that of the next two digits.
use Rattle.std.proofs.Common.{◌+◌, ◌*◌, ◌∙◌, arith}
use Rattle.look_lines.proofs.Digits.{bytes-end, bytes-more, digit-below}
use Rattle.look_lines.proofs.inputs.bytes_of.Goals as goal

pub overflow_cast-byte : goal.overflow_cast-byte
overflow_cast-byte c =
    let high = digit-below c.args.digits.now c.loop-at.at c.requires (omega arith) in
    let low = digit-below c.args.digits.now (c.loop-at.at + 1) c.requires (omega arith) in
    omega (arith, c.digit_value.ensures, c.digit_value-in-loop-at.ensures)

pub loop-at-preserved : goal.loop-at-preserved
loop-at-preserved c = (
  omega arith,
  bytes-more c.args.digits.now c.loop-at.bytes.items c.push.new.self.items c.loop-at.at _ (omega arith)
      (λ i. 16 * c.digit_value.ensures i + c.digit_value-in-loop-at.ensures i) c.in_ok-push.ensures.items
      c.loop-at.invariant.1,
)

pub returns : goal.returns
returns c = c.new.ensures ∙ bytes-end c.args.digits.now c.loop-at.bytes.items c.loop-at.at (omega arith)
    c.loop-at.invariant.1

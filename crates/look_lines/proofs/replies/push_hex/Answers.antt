use Rattle.std.proofs.Common.{◌∙◌, ◌++◌, ap, arith, take_all}
use Rattle.std.specs.List.{flat_map}
use Rattle.report_lines.specs.Text.{byte_text}
use Rattle.look_lines.proofs.replies.push_hex.Goals as goal

pub returns : goal.returns
returns c =
    c.loop-byte.invariant
    ∙ ap (λ bytes. c.args.out.now.items ++ flat_map byte_text bytes)
    (take_all c.loop-byte.byte-index c.args.bytes.now (omega arith))

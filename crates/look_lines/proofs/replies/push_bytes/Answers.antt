use Rattle.std.proofs.Common.{◌+◌, ◌++◌, ◌∙◌, ap, refl}
use Rattle.report_lines.specs.Text.{byte_text}
use Rattle.shadow_memory.specs.Memories.{bytes_in}
use Rattle.look_lines.proofs.Joins.{no_more, one_more}
use Rattle.look_lines.proofs.replies.push_bytes.Goals as goal

pub loop-i-init : goal.loop-i-init
loop-i-init c =
    no_more (λ i. byte_text (bytes_in c.args.memory.now (c.args.range.start + i))) c.args.out.now.items _ refl

pub loop-i-preserved : goal.loop-i-preserved
loop-i-preserved c =
    one_more (λ i. byte_text (bytes_in c.args.memory.now (c.args.range.start + i))) c.loop-i.i _ _ _ c.loop-i.invariant
    (c.in_ok-push_byte.ensures ∙ ap (λ b. c.loop-i.out.items ++ byte_text b) c.byte.ensures.byte)

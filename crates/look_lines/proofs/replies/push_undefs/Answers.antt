use Rattle.std.proofs.Common.{◌+◌, ◌++◌, ◌∙◌, ap, refl}
use Rattle.shadow_memory.specs.Memories.{shadows_in}
use Rattle.look_lines.specs.Texts.{undef_text}
use Rattle.look_lines.proofs.Joins.{no_more, one_more}
use Rattle.look_lines.proofs.replies.push_undefs.Goals as goal

pub loop-i-init : goal.loop-i-init
loop-i-init c =
    no_more (λ i. undef_text (shadows_in c.args.memory.now (c.args.range.start + i))) c.args.out.now.items _ refl

pub loop-i-preserved : goal.loop-i-preserved
loop-i-preserved c =
    one_more (λ i. undef_text (shadows_in c.args.memory.now (c.args.range.start + i))) c.loop-i.i _ _ _
    c.loop-i.invariant
    (c.in_ok-push_undef.ensures ∙ ap (λ shadow. c.loop-i.out.items ++ undef_text shadow) c.byte.ensures.shadow)

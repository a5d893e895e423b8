use Rattle.std.proofs.Common.{◌∙◌, ◌+◌, ap, append-nil, arith, sym}
use Rattle.shadow_memory.specs.Memories.{bytes_in}
use Rattle.checkpoints.specs.Outputs.{part}
use Rattle.checkpoints.specs.Words.{has_address}
use Rattle.checkpoints.proofs.OutputSteps.{piece-more}
use Rattle.checkpoints.proofs.outputs.push_piece.Goals as goal

pub loop-i-init : goal.loop-i-init
loop-i-init c xs is was = was ∙ ap (part c.args.range) (sym (append-nil xs))

pub loop-i-preserved : goal.loop-i-preserved
loop-i-preserved c xs is was =
    piece-more (bytes_in c.args.memory.now) c.args.range c.args.piece c.loop-i.i _ c.is_within.result xs _ _
    (omega (arith, c.loop-i-test.true, c.loop-i.auto.i-end))
    c.byte-byte.ensures.byte (c.is_within.ensures ∙ ap (λ n. has_address c.args.range (n + c.loop-i.i)) is)
    (c.loop-i.invariant xs is was) c.in_ok-push_if.ensures

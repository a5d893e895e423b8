use Rattle.exit_status.specs.ExecEnds.{stream_lines}
use Rattle.exit_status.proofs.Pieces.{front-next}
use Rattle.exit_status.proofs.exec_ends.write_streams.Goals as goal

pub returns-clause-line : goal.returns-clause-line
unfolding stream_lines
returns-clause-line g c =
    front-next (g.W.Write.contents c.args.writer.now) (g.W.Write.contents c.write_lost.new.writer)
    (g.W.Write.contents c.write_limits.new.writer) _ _ (c.write_lost.ensures.whole c.if-not-write_lost.false)
    c.write_limits.ensures.line

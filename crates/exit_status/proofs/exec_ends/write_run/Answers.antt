use Rattle.exit_status.proofs.Pieces.{front-next}
use Rattle.exit_status.proofs.exec_ends.write_run.Goals as goal

pub returns-clause-line : goal.returns-clause-line
returns-clause-line g c =
    front-next (g.W.Write.contents c.args.writer.now) (g.W.Write.contents c.write_ended.new.writer)
    (g.W.Write.contents c.write_streams.new.writer) _ _ (c.write_ended.ensures.whole c.if-not-write_ended.false)
    c.write_streams.ensures.line

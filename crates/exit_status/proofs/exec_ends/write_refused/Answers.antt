use Rattle.std.proofs.Common.{codes, decimal, subst}
use Rattle.std.specs.Io.KnownBytes.{Appends}
use Rattle.exit_status.specs.Ends.{AppendsFront}
use Rattle.exit_status.proofs.Pieces.{named-are}
use Rattle.exit_status.proofs.exec_ends.write_refused.Goals as goal

pub returns-clause-line : goal.returns-clause-line
returns-clause-line g c =
    subst (AppendsFront (g.W.Write.contents c.args.writer.now) (g.W.Write.contents c.send_two.new.writer))
    (named-are (codes "replaycheck exec: ") c.format-most.result.now
    (decimal c.args.limits.most_output)
    (codes " bytes of output are all there is room for (--most-output); writes refused: ")
    c.format-number.result.now (decimal c.args.lost)
    c.format-most.ensures.text c.format-number.ensures.text)
    c.send_two.ensures.front

pub returns-clause-whole : goal.returns-clause-whole
returns-clause-whole g c whole =
    subst (Appends (g.W.Write.contents c.args.writer.now) (g.W.Write.contents c.send_two.new.writer))
    (named-are (codes "replaycheck exec: ") c.format-most.result.now
    (decimal c.args.limits.most_output)
    (codes " bytes of output are all there is room for (--most-output); writes refused: ")
    c.format-number.result.now (decimal c.args.lost)
    c.format-most.ensures.text c.format-number.ensures.text)
    (c.send_two.ensures.whole whole)

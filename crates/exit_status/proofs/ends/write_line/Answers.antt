use Rattle.std.proofs.Common.{ap, subst, sym}
use Rattle.std.specs.Io.KnownBytes.{Appends}
use Rattle.exit_status.specs.Ends.{AppendsFront, line_of}
use Rattle.exit_status.proofs.ends.write_line.Goals as goal

pub returns-in-RegionsOverlap-clause-line : goal.returns-in-RegionsOverlap-clause-line
returns-in-RegionsOverlap-clause-line g c =
    subst (AppendsFront (g.W.Write.contents c.args.writer.now) (g.W.Write.contents c.send_two.new.writer))
    (ap line_of (sym c.in-RegionsOverlap.is)) c.send_two.ensures.front

pub returns-in-RegionsOverlap-clause-whole : goal.returns-in-RegionsOverlap-clause-whole
returns-in-RegionsOverlap-clause-whole g c whole =
    subst (Appends (g.W.Write.contents c.args.writer.now) (g.W.Write.contents c.send_two.new.writer))
    (ap line_of (sym c.in-RegionsOverlap.is)) (c.send_two.ensures.whole whole)

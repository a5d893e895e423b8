use Rattle.std.proofs.Common.{codes, decimal, subst}
use Rattle.std.specs.Io.KnownBytes.{Appends}
use Rattle.exit_status.specs.Ends.{AppendsFront}
use Rattle.exit_status.specs.ExecEnds.{most_text}
use Rattle.exit_status.proofs.Pieces.{named-are}
use Rattle.exit_status.proofs.exec_ends.write_repeats.Goals as goal

pub returns-clause-line : goal.returns-clause-line
returns-clause-line g c =
    subst (AppendsFront (g.W.Write.contents c.args.writer.now) (g.W.Write.contents c.send_two.new.writer))
    (named-are (codes "replaycheck exec: other commands repeat this run with --most-moved ") c.format-moved.result.now
    (decimal c.args.limits.most_moved) (codes " --most-output ")
    c.most_text-most.result.now (most_text c.args.limits.most_output)
    c.format-moved.ensures.text c.most_text-most.ensures)
    c.send_two.ensures.front

pub returns-clause-whole : goal.returns-clause-whole
returns-clause-whole g c whole =
    subst (Appends (g.W.Write.contents c.args.writer.now) (g.W.Write.contents c.send_two.new.writer))
    (named-are (codes "replaycheck exec: other commands repeat this run with --most-moved ") c.format-moved.result.now
    (decimal c.args.limits.most_moved) (codes " --most-output ")
    c.most_text-most.result.now (most_text c.args.limits.most_output)
    c.format-moved.ensures.text c.most_text-most.ensures)
    (c.send_two.ensures.whole whole)

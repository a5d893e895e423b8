use Rattle.std.proofs.Common.{◌∙◌, ◌++◌, codes, decimal, subst}
use Rattle.std.proofs.KnownBytes.{Appends-trans}
use Rattle.std.proofs.lemmas.Bool.{not-false}
use Rattle.std.specs.Io.KnownBytes.{Appends}
use Rattle.exit_status.specs.Ends.{AppendsFront, line_with}
use Rattle.exit_status.specs.ExecEnds.{times_word}
use Rattle.exit_status.proofs.Pieces.{front-first, front-next, pieces-are}
use Rattle.exit_status.proofs.exec_ends.write_call.Goals as goal

pub returns-then-not-send-clause-line : goal.returns-then-not-send-clause-line
returns-then-not-send-clause-line g c =
    front-first (g.W.Write.contents c.args.writer.now) (g.W.Write.contents c.send.new.writer)
    (codes "replaycheck: call ") _ (c.send.result.taken, c.send.ensures.within, c.send.ensures.sent)

pub returns-clause-line : goal.returns-clause-line
returns-clause-line g c =
    front-next (g.W.Write.contents c.args.writer.now) (g.W.Write.contents c.send.new.writer)
    (g.W.Write.contents c.send_named.new.writer) (codes "replaycheck: call ") _
    (c.send.ensures.whole (not-false _ c.if-not-send.false))
    (subst (AppendsFront (g.W.Write.contents c.send.new.writer) (g.W.Write.contents c.send_named.new.writer))
    (pieces-are c.format-number.result.now (decimal c.args.call.number) (codes " isn't known (")
    c.format-times.result.now (decimal c.args.call.times) c.as_bytes.result.now (times_word c.args.call.times)
    c.format-number.ensures.text c.format-times.ensures.text (c.as_bytes.ensures.value ∙ c.times_word-word.ensures))
    c.send_named.ensures.front)

pub returns-clause-whole : goal.returns-clause-whole
returns-clause-whole g c whole =
    Appends-trans (g.W.Write.contents c.args.writer.now) (g.W.Write.contents c.send.new.writer)
    (g.W.Write.contents c.send_named.new.writer) (codes "replaycheck: call ") _
    (c.send.ensures.whole (not-false _ c.if-not-send.false))
    (subst (Appends (g.W.Write.contents c.send.new.writer) (g.W.Write.contents c.send_named.new.writer))
    (pieces-are c.format-number.result.now (decimal c.args.call.number) (codes " isn't known (")
    c.format-times.result.now (decimal c.args.call.times) c.as_bytes.result.now (times_word c.args.call.times)
    c.format-number.ensures.text c.format-times.ensures.text (c.as_bytes.ensures.value ∙ c.times_word-word.ensures))
    (c.send_named.ensures.whole whole))

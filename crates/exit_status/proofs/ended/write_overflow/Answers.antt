use Rattle.std.proofs.Common.{List, ℕ, codes, subst}
use Rattle.std.specs.Io.KnownBytes.{Appends}
use Rattle.exit_status.specs.Ends.{AppendsFront, line_with}
use Rattle.exit_status.proofs.ended.write_overflow.Goals as goal

pub returns-clause-line : goal.returns-clause-line
returns-clause-line g c =
    subst (λ (text : List ℕ). AppendsFront (g.W.Write.contents c.args.writer.now)
    (g.W.Write.contents c.send_line.new.writer)
    (line_with (codes "replaycheck exec: Stack overflow in thread #1: can't grow stack to ") text))
    c.address_glyphs.ensures c.send_line.ensures.front

pub returns-clause-whole : goal.returns-clause-whole
returns-clause-whole g c whole =
    subst (λ (text : List ℕ). Appends (g.W.Write.contents c.args.writer.now)
    (g.W.Write.contents c.send_line.new.writer)
    (line_with (codes "replaycheck exec: Stack overflow in thread #1: can't grow stack to ") text))
    c.address_glyphs.ensures (c.send_line.ensures.whole whole)

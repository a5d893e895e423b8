use Rattle.std.proofs.Common.{List, ℕ, ◌++◌, subst}
use Rattle.std.specs.Io.KnownBytes.{Appends}
use Rattle.exit_status.specs.Ends.{AppendsFront, line_with}
use Rattle.exit_status.proofs.lines.send_two.Goals as goal

pub returns-clause-front : goal.returns-clause-front
returns-clause-front g c =
    subst (λ (second : List ℕ). AppendsFront (g.W.Write.contents c.args.writer.now)
    (g.W.Write.contents c.send_named.new.writer)
    (c.args.word.now ++ c.args.first.now ++ line_with c.args.gap.now second)) c.as_bytes.ensures.value
    c.send_named.ensures.front

pub returns-clause-whole : goal.returns-clause-whole
returns-clause-whole g c whole =
    subst (λ (second : List ℕ). Appends (g.W.Write.contents c.args.writer.now)
    (g.W.Write.contents c.send_named.new.writer)
    (c.args.word.now ++ c.args.first.now ++ line_with c.args.gap.now second)) c.as_bytes.ensures.value
    (c.send_named.ensures.whole whole)

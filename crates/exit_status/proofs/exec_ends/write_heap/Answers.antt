use Rattle.std.proofs.Common.{List, ℕ, ◌++◌, codes, subst}
use Rattle.std.specs.Io.KnownBytes.{Appends}
use Rattle.exit_status.specs.Ends.{AppendsFront, line_with}
use Rattle.exit_status.proofs.exec_ends.write_heap.Goals as goal

pub returns-clause-line : goal.returns-clause-line
returns-clause-line g c =
    subst (λ (words : List ℕ). AppendsFront (g.W.Write.contents c.args.writer.now)
    (g.W.Write.contents c.send_named.new.writer)
    (codes "replaycheck exec: " ++ c.args.file.now ++ line_with words c.args.names.now)) c.heap_words-words.ensures
    c.send_named.ensures.front

pub returns-clause-whole : goal.returns-clause-whole
returns-clause-whole g c whole =
    subst (λ (words : List ℕ). Appends (g.W.Write.contents c.args.writer.now)
    (g.W.Write.contents c.send_named.new.writer)
    (codes "replaycheck exec: " ++ c.args.file.now ++ line_with words c.args.names.now)) c.heap_words-words.ensures
    (c.send_named.ensures.whole whole)

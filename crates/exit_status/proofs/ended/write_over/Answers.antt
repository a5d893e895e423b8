use Rattle.std.proofs.Common.{◌∙◌, ◌++◌, List, ℕ, codes, decimal, subst}
use Rattle.std.proofs.KnownBytes.{Appends-trans}
use Rattle.std.proofs.lemmas.Bool.{not-false}
use Rattle.std.specs.Io.KnownBytes.{Appends}
use Rattle.exit_status.proofs.Pieces.{front-first, front-next}
use Rattle.exit_status.specs.Ends.{AppendsFront}
use Rattle.exit_status.specs.ExecEnds.{needed_line}
use Rattle.exit_status.proofs.ended.write_over.Goals as goal

pub returns-then-not-send-clause-line : goal.returns-then-not-send-clause-line
returns-then-not-send-clause-line g c =
    let a = g.W.Write.contents c.args.writer.now in
    let b = g.W.Write.contents c.send.new.writer in
    front-first a b (codes "replaycheck exec: more than ") (decimal c.args.most ++ needed_line c.args.step) (
      c.send.result.taken,
      c.send.ensures.within,
      c.send.ensures.sent,
    )

pub returns-then-not-send-2-clause-line : goal.returns-then-not-send-2-clause-line
returns-then-not-send-2-clause-line g c =
    let a = g.W.Write.contents c.args.writer.now in
    let b = g.W.Write.contents c.send.new.writer in
    let d = g.W.Write.contents c.send-2.new.writer in
    let most = subst (λ (most : List ℕ). AppendsFront b d most) (c.as_bytes.ensures.value ∙ c.format-most.ensures.text)
    (c.send-2.result.taken, c.send-2.ensures.within, c.send-2.ensures.sent) in
    front-next a b d (codes "replaycheck exec: more than ") (decimal c.args.most ++ needed_line c.args.step)
    (c.send.ensures.whole (not-false _ c.if-not-send.false))
    (front-first b d (decimal c.args.most) (needed_line c.args.step) most)

pub returns-clause-line : goal.returns-clause-line
returns-clause-line g c =
    let a = g.W.Write.contents c.args.writer.now in
    let b = g.W.Write.contents c.send.new.writer in
    let d = g.W.Write.contents c.send-2.new.writer in
    let e = g.W.Write.contents c.write_needed.new.writer in
    let most = subst (λ (most : List ℕ). Appends b d most) (c.as_bytes.ensures.value ∙ c.format-most.ensures.text)
    (c.send-2.ensures.whole (not-false _ c.if-not-send-2.false)) in
    front-next a b e (codes "replaycheck exec: more than ") (decimal c.args.most ++ needed_line c.args.step)
    (c.send.ensures.whole (not-false _ c.if-not-send.false))
    (front-next b d e (decimal c.args.most) (needed_line c.args.step) most c.write_needed.ensures.line)

pub returns-clause-whole : goal.returns-clause-whole
returns-clause-whole g c whole =
    let a = g.W.Write.contents c.args.writer.now in
    let b = g.W.Write.contents c.send.new.writer in
    let d = g.W.Write.contents c.send-2.new.writer in
    let e = g.W.Write.contents c.write_needed.new.writer in
    let most = subst (λ (most : List ℕ). Appends b d most) (c.as_bytes.ensures.value ∙ c.format-most.ensures.text)
    (c.send-2.ensures.whole (not-false _ c.if-not-send-2.false)) in
    Appends-trans a b e (codes "replaycheck exec: more than ") (decimal c.args.most ++ needed_line c.args.step)
    (c.send.ensures.whole (not-false _ c.if-not-send.false))
    (Appends-trans b d e (decimal c.args.most) (needed_line c.args.step) most (c.write_needed.ensures.whole whole))

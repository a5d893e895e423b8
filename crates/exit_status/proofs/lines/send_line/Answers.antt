use Rattle.std.proofs.Common.{List, ℕ, subst}
use Rattle.std.proofs.KnownBytes.{Appends-trans}
use Rattle.std.proofs.lemmas.Bool.{not-false}
use Rattle.std.specs.Io.KnownBytes.{Appends}
use Rattle.exit_status.proofs.Pieces.{front-first, front-next}
use Rattle.exit_status.specs.Ends.{AppendsFront}
use Rattle.exit_status.proofs.lines.send_line.Goals as goal

pub returns-then-not-send-clause-front : goal.returns-then-not-send-clause-front
returns-then-not-send-clause-front g c =
    let a = g.W.Write.contents c.args.writer.now in
    let b = g.W.Write.contents c.send.new.writer in
    let sent = subst (λ (word : List ℕ). AppendsFront a b word) c.as_bytes.ensures.value
    (c.send.result.taken, c.send.ensures.within, c.send.ensures.sent) in
    front-first a b _ _ (front-first a b _ _ sent)

pub returns-then-not-send-2-clause-front : goal.returns-then-not-send-2-clause-front
returns-then-not-send-2-clause-front g c =
    let a = g.W.Write.contents c.args.writer.now in
    let b = g.W.Write.contents c.send.new.writer in
    let d = g.W.Write.contents c.send-2.new.writer in
    let word = subst (λ (word : List ℕ). Appends a b word) c.as_bytes.ensures.value
    (c.send.ensures.whole (not-false _ c.if-not-send.false)) in
    front-first a d _ _ (front-next a b d _ _ word (
      c.send-2.result.taken,
      c.send-2.ensures.within,
      c.send-2.ensures.sent,
    ))

pub returns-clause-front : goal.returns-clause-front
returns-clause-front g c =
    let a = g.W.Write.contents c.args.writer.now in
    let b = g.W.Write.contents c.send.new.writer in
    let d = g.W.Write.contents c.send-2.new.writer in
    let e = g.W.Write.contents c.send-3.new.writer in
    let word = subst (λ (word : List ℕ). Appends a b word) c.as_bytes.ensures.value
    (c.send.ensures.whole (not-false _ c.if-not-send.false)) in
    front-next a d e _ _ (Appends-trans a b d _ _ word (c.send-2.ensures.whole (not-false _ c.if-not-send-2.false)))
    (c.send-3.result.taken, c.send-3.ensures.within, c.send-3.ensures.sent)

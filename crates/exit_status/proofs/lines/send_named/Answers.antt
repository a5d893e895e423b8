use Rattle.std.proofs.Common.{List, ℕ, ◌++◌, subst}
use Rattle.std.proofs.KnownBytes.{Appends-trans}
use Rattle.std.proofs.lemmas.Bool.{not-false}
use Rattle.std.specs.Io.KnownBytes.{Appends}
use Rattle.exit_status.proofs.Pieces.{front-first, front-next}
use Rattle.exit_status.specs.Ends.{AppendsFront, line_with}
use Rattle.exit_status.proofs.lines.send_named.Goals as goal

pub returns-then-not-send-clause-front : goal.returns-then-not-send-clause-front
returns-then-not-send-clause-front g c =
    let a = g.W.Write.contents c.args.writer.now in
    let b = g.W.Write.contents c.send.new.writer in
    let sent = subst (λ (word : List ℕ). AppendsFront a b word) c.as_bytes.ensures.value
    (c.send.result.taken, c.send.ensures.within, c.send.ensures.sent) in
    front-first a b (c.args.word.now ++ c.args.first.now) (line_with c.args.gap.now c.args.second.now)
    (front-first a b c.args.word.now c.args.first.now sent)

pub returns-then-not-send-2-clause-front : goal.returns-then-not-send-2-clause-front
returns-then-not-send-2-clause-front g c =
    let a = g.W.Write.contents c.args.writer.now in
    let b = g.W.Write.contents c.send.new.writer in
    let d = g.W.Write.contents c.send-2.new.writer in
    let word = subst (λ (word : List ℕ). Appends a b word) c.as_bytes.ensures.value
    (c.send.ensures.whole (not-false _ c.if-not-send.false)) in
    let sent = subst (λ (first : List ℕ). AppendsFront b d first) c.as_bytes-2.ensures.value
    (c.send-2.result.taken, c.send-2.ensures.within, c.send-2.ensures.sent) in
    front-first a d (c.args.word.now ++ c.args.first.now) (line_with c.args.gap.now c.args.second.now)
    (front-next a b d c.args.word.now c.args.first.now word sent)

pub returns-clause-front : goal.returns-clause-front
returns-clause-front g c =
    let a = g.W.Write.contents c.args.writer.now in
    let b = g.W.Write.contents c.send.new.writer in
    let d = g.W.Write.contents c.send-2.new.writer in
    let e = g.W.Write.contents c.send_line.new.writer in
    let word = subst (λ (word : List ℕ). Appends a b word) c.as_bytes.ensures.value
    (c.send.ensures.whole (not-false _ c.if-not-send.false)) in
    let first = subst (λ (first : List ℕ). Appends b d first) c.as_bytes-2.ensures.value
    (c.send-2.ensures.whole (not-false _ c.if-not-send-2.false)) in
    front-next a d e (c.args.word.now ++ c.args.first.now) (line_with c.args.gap.now c.args.second.now)
    (Appends-trans a b d c.args.word.now c.args.first.now word first) c.send_line.ensures.front

use Rattle.std.proofs.Common.{ℕ, List, ◌≤◌, arith, ap, Ok, length, subst}
use Rattle.std.proofs.lemmas.List.{take_all}
use Rattle.line_protocol.specs.Answers.{Answers, Relation}
use Rattle.line_protocol.specs.Serving.{Fed}
use Rattle.line_protocol.proofs.Known.{at_refusal}
use Rattle.line_protocol.proofs.ServeSteps.{fed-none, fed-in, over-in, broken-in}
use Rattle.line_protocol.proofs.serving.server.Server.feed.Goals as goal

pub loop-byte-init : goal.loop-byte-init
loop-byte-init g c =
    fed-none (Answers g.L.Listener.answers g.L.Listener.reply g.L.Listener.over c.args.listener.now) _ _

pub returns-then-over-clause-over : goal.returns-then-over-clause-over
returns-then-over-clause-over g c = λ e.
    let from : Relation = Answers g.L.Listener.answers g.L.Listener.reply g.L.Listener.over c.args.listener.now in
    let mid : Relation = Answers g.L.Listener.answers g.L.Listener.reply g.L.Listener.over c.loop-byte.listener in
    over-in from mid _ c.loop-byte.self c.loop-byte.self _ (g.W.Write.contents c.loop-byte.writer) _ c.args.bytes.now
    c.loop-byte.byte-index (omega arith)
    c.loop-byte.invariant (c.in_ok-over.ensures.over (ap Ok c.if-over.true))

pub returns-in_err-over-clause-broken : goal.returns-in_err-over-clause-broken
returns-in_err-over-clause-broken g c =
    let from : Relation = Answers g.L.Listener.answers g.L.Listener.reply g.L.Listener.over c.args.listener.now in
    let mid : Relation = Answers g.L.Listener.answers g.L.Listener.reply g.L.Listener.over c.loop-byte.listener in
    at_refusal c.from_residual.result
    (broken-in from mid _ c.loop-byte.self _ _ (g.W.Write.contents c.loop-byte.writer) _ c.args.bytes.now
    c.loop-byte.byte-index
    (omega arith) c.loop-byte.invariant c.in_err-over.ensures.broken)

pub loop-byte-preserved : goal.loop-byte-preserved
loop-byte-preserved g c =
    let from : Relation = Answers g.L.Listener.answers g.L.Listener.reply g.L.Listener.over c.args.listener.now in
    let mid : Relation = Answers g.L.Listener.answers g.L.Listener.reply g.L.Listener.over c.loop-byte.listener in
    fed-in from mid _ c.loop-byte.self _ _ (g.W.Write.contents c.loop-byte.writer) _ c.args.bytes.now
    c.loop-byte.byte-index (omega arith)
    c.loop-byte.invariant _ (c.in_ok-over.ensures.fed (ap Ok c.if-over.false))

pub returns-clause-fed : goal.returns-clause-fed
returns-clause-fed g c = λ e.
    let from : Relation = Answers g.L.Listener.answers g.L.Listener.reply g.L.Listener.over c.args.listener.now in
    let after : Relation = Answers g.L.Listener.answers g.L.Listener.reply g.L.Listener.over c.loop-byte.listener in
    let P : List ℕ → Type 0 = Fed from after c.args.self.now c.loop-byte.self (g.W.Write.contents c.args.writer.now)
    (g.W.Write.contents c.loop-byte.writer) in
    let all : length c.args.bytes.now ≤ c.loop-byte.byte-index = omega arith in
    subst P (take_all c.loop-byte.byte-index c.args.bytes.now all) c.loop-byte.invariant

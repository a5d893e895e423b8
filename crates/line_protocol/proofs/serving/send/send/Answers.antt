use Rattle.std.proofs.Common.{arith, ◌≡◌, length}
use Rattle.line_protocol.proofs.Known.{sent-step, sent-all, appends-keeps}
use Rattle.line_protocol.proofs.serving.send.send.Goals as goal

pub loop-taken-preserved : goal.loop-taken-preserved
loop-taken-preserved g c =
    let step = sent-step (g.W.Write.contents c.args.writer.now) (g.W.Write.contents c.loop-taken.writer)
    (g.W.Write.contents c.write.new.self)
    c.loop-taken.taken c.in-Ok.n c.args.bytes.now (omega arith) c.in-Ok.ensures.bound c.loop-taken.invariant.sent
    c.in-Ok.ensures.bytes in
    record { within = step.0; sent = step.1 }

pub returns-in-Ok-flush-clause-whole : goal.returns-in-Ok-flush-clause-whole
returns-in-Ok-flush-clause-whole g c = λ all.
    let ends : c.loop-taken.taken ≡ length c.args.bytes.now = omega arith in
    sent-all _ _ c.loop-taken.taken c.args.bytes.now ends
    (appends-keeps _ (g.W.Write.contents c.loop-taken.writer) (g.W.Write.contents c.flush.new.self) _
    c.loop-taken.invariant.sent
    c.in-Ok-flush.ensures.bytes)

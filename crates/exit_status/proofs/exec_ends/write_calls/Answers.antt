use Rattle.std.proofs.Common.{ap, arith, subst, take_all}
use Rattle.std.specs.Io.KnownBytes.{Appends}
use Rattle.std.specs.List.{flat_map}
use Rattle.exit_status.specs.ExecEnds.{call_line}
use Rattle.exit_status.proofs.Pieces.{calls-front, calls-more, front-whole}
use Rattle.exit_status.proofs.exec_ends.write_calls.Goals as goal

pub returns-then-not-write_call : goal.returns-then-not-write_call
returns-then-not-write_call g c =
    calls-front (g.W.Write.contents c.args.writer.now) (g.W.Write.contents c.loop-call.writer)
    (g.W.Write.contents c.write_call.new.writer) c.args.calls.now c.loop-call.call-index _ c.loop-call-test.true
    c.loop-call.invariant c.write_call.ensures.line

pub loop-call-preserved : goal.loop-call-preserved
loop-call-preserved g c =
    calls-more (g.W.Write.contents c.args.writer.now) (g.W.Write.contents c.loop-call.writer)
    (g.W.Write.contents c.write_call.new.writer) c.args.calls.now c.loop-call.call-index _ c.loop-call-test.true
    c.loop-call.invariant (c.write_call.ensures.whole c.if-not-write_call.false)

pub returns : goal.returns
returns g c =
    front-whole (g.W.Write.contents c.args.writer.now) (g.W.Write.contents c.loop-call.writer)
    (flat_map call_line c.args.calls.now)
    (subst (Appends (g.W.Write.contents c.args.writer.now) (g.W.Write.contents c.loop-call.writer))
    (ap (flat_map call_line) (take_all c.loop-call.call-index c.args.calls.now (omega (arith, c.loop-call-test.false))))
    c.loop-call.invariant)

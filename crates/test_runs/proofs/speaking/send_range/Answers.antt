use Rattle.std.proofs.Common.{◌≡◌, ◌∙◌, ap, arith, subst, sym}
use Rattle.std.proofs.KnownBytes.{Appends-nil}
use Rattle.std.specs.Io.KnownBytes.{Appends}
use Rattle.shadow_memory.specs.Memories.{bytes_in}
use Rattle.test_runs.proofs.Steps.{if-err}
use Rattle.test_runs.proofs.Parts.{part-cut, part-more, over-none}
use Rattle.test_runs.proofs.speaking.send_range.Goals as goal

pub loop-done-init : goal.loop-done-init
loop-done-init g c = record {
  within = omega arith;
  sent =
      subst (Appends (g.W.Write.contents c.args.writer.now) (g.W.Write.contents c.args.writer.now))
      (sym (over-none (bytes_in c.args.memory.now) c.args.range.start))
      (Appends-nil (g.W.Write.contents c.args.writer.now));
}

pub loop-done-preserved : goal.loop-done-preserved
loop-done-preserved g c = record {
  within = omega (arith, c.min.ensures, c.loop-done-test.true);
  sent =
      part-more (bytes_in c.args.memory.now) c.args.range.start c.loop-done.done c.min.result
      (g.W.Write.contents c.args.writer.now) (g.W.Write.contents c.loop-done.writer)
      (g.W.Write.contents c.send_part.new.writer) c.loop-done.invariant.sent c.in_ok-send_part.ensures.ok;
}

pub returns-in_err-send_part-clause-err : goal.returns-in_err-send_part-clause-err
returns-in_err-send_part-clause-err g c =
    let wrote = c.in_err-send_part.ensures.err in
    if-err c.from_residual.result _
    (part-cut (bytes_in c.args.memory.now) c.args.range.start c.loop-done.done c.min.result c.args.range.len wrote.0
    (g.W.Write.contents c.args.writer.now) (g.W.Write.contents c.loop-done.writer)
    (g.W.Write.contents c.send_part.new.writer) (omega (arith, c.min.ensures, c.loop-done-test.true))
    c.loop-done.invariant.sent wrote.1 wrote.2)

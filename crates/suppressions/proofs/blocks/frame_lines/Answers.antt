-- A turn that keeps a frame is the first, or comes after one that did.
use Rattle.std.proofs.Common.{◌∙◌, sym, ap}
use Rattle.std.specs.Prelude.{is_some}
use Rattle.suppressions.proofs.BlockSteps.{frame_first}
use Rattle.suppressions.proofs.blocks.frame_lines.Goals as goal

pub returns-in_err-frame-clause-kept : goal.returns-in_err-frame-clause-kept
returns-in_err-frame-clause-kept c = λ e.
    frame_first c.args.body c.loop-line.body c.next.new.self c.in-Some.line c.text.result.now
    c.loop-line.invariant.first c.in-Some.ensures.some c.text.ensures c.in_err-frame.ensures.kept

pub returns-in_err-push-in-Some-2-clause-kept : goal.returns-in_err-push-in-Some-2-clause-kept
returns-in_err-push-in-Some-2-clause-kept c = λ e.
    frame_first c.args.body c.loop-line.body c.next.new.self c.in-Some.line c.text.result.now
    c.loop-line.invariant.first c.in-Some.ensures.some c.text.ensures
    (ap is_some (sym c.in_ok-frame.ensures.frame ∙ c.in-Some-2.is))

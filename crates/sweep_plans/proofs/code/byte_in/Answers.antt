use Rattle.std.proofs.Common.{sym, ◌∙◌, arith}
use Rattle.guest_elf.specs.Segments.{loaded_by}
use Rattle.sweep_plans.proofs.CodeSteps.{loaded-here, loaded-later, loaded-nowhere}
use Rattle.sweep_plans.proofs.PlaceSteps.{none-found}
use Rattle.sweep_plans.proofs.code.byte_in.Goals as goal

pub returns-in-Some : goal.returns-in-Some
returns-in-Some c =
    loaded-here c.args.segments.now c.loop-segment.segment-index c.args.addr c.segment-item.result c.in-Some.byte
    c.loop-segment-test.true c.segment-item.is c.loop-segment.invariant (sym c.byte_of.ensures ∙ c.in-Some.is)

pub loop-segment-preserved : goal.loop-segment-preserved
loop-segment-preserved c =
    loaded-later c.args.segments.now c.loop-segment.segment-index c.args.addr c.segment-item.result
    c.loop-segment-test.true c.segment-item.is c.loop-segment.invariant
    (none-found (loaded_by c.segment-item.result c.args.addr)
    (λ byte e. c.in_default.not-Some byte (c.byte_of.ensures ∙ e)))

pub returns : goal.returns
returns c =
    loaded-nowhere c.args.segments.now c.loop-segment.segment-index c.args.addr (omega arith) c.loop-segment.invariant

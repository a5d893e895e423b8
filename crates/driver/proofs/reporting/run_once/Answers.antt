use Rattle.std.proofs.Common.{subst, sym}
use Rattle.driver.specs.Once.{IsReportOnce}
use Rattle.driver.proofs.reporting.run_once.Goals as goal

pub returns-then-whole-clause-ok : goal.returns-then-whole-clause-ok
returns-then-whole-clause-ok g c =
    let told = subst (IsReportOnce c.args.image.now c.args.input.items c.args.suppressions.now c.args.step)
    (sym c.deref.ensures.value) c.in-Ok.ensures in
    (c.deref.result.now, told, c.send-taken.ensures.whole c.if-whole.true)

pub returns-clause-fault : goal.returns-clause-fault
returns-clause-fault g c =
    let told = subst (IsReportOnce c.args.image.now c.args.input.items c.args.suppressions.now c.args.step)
    (sym c.deref.ensures.value) c.in-Ok.ensures in
    (c.deref.result.now, told, c.send-taken.ensures.within, c.send-taken.ensures.sent)

use Rattle.std.proofs.Common.{◌∙◌, ◌++◌, ap, sym, subst}
use Rattle.driver.specs.Once.{IsReportOnce}
use Rattle.driver.proofs.RunSteps.{report-once}
use Rattle.driver.proofs.reporting.report_once.Goals as goal

pub returns : goal.returns
returns c =
    let told = c.in_ok-report.ensures.ok in
    let is = report-once c.args.image.now c.args.input.items c.args.suppressions.now c.in_ok-setup.setup
    c.default-options.result c.args.step
    c.in_ok-setup.ensures c.default-options.ensures.callers c.default-options.ensures.show told.0 told.1 in
    subst (IsReportOnce c.args.image.now c.args.input.items c.args.suppressions.now c.args.step)
    (sym (told.2 ∙ ap (λ former. former ++ told.0) c.new-text.ensures.items)) is

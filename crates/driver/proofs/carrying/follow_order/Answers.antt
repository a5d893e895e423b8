use Rattle.std.proofs.Common.{inl, inr, List, subst}
use Rattle.exit_status.proofs.EndSteps.{passed-on}
use Rattle.driver.proofs.Stages.{does-certify, does-report, does-same, no-file, no-image, untouched, with-all}
use Rattle.driver.proofs.Stages.{with-image}
use Rattle.driver.specs.Carried.{Reports}
use Rattle.exit_status.specs.Ends.{end_of}
use Rattle.driver.specs.Once.{IsReportOnce}
use Rattle.command_line.specs.declared.order.Action.TheVariants.{Session, Look, Tries}
use Rattle.suppressions.specs.Rules.{Rule}
use Rattle.driver.proofs.carrying.follow_order.Goals as goal

pub returns-in_err-profile : goal.returns-in_err-profile
returns-in_err-profile g c =
    rw (passed-on c.from_residual.result _ c.from_residual.ensures.1)
    (inl (inl c.in_err-profile.ensures.err, untouched _ _))

pub returns-in_err-file : goal.returns-in_err-file
returns-in_err-file g c =
    rw (passed-on c.from_residual-in_err-file.result _ c.from_residual-in_err-file.ensures.1) (inl (
      no-file (g.F.Files.gives c.args.files.now) _ _ _ _ c.in_ok-profile.ensures.ok c.in_err-file.ensures.err,
      untouched _ _,
    ))

pub returns-in_err-image : goal.returns-in_err-image
returns-in_err-image g c =
    rw (passed-on c.from_residual-in_err-image.result _ c.from_residual-in_err-image.ensures.1) (inl (
      no-image (g.F.Files.gives c.args.files.now) c.args.order.now.profile c.args.order.now.file.now _ _ _
          c.in_err-image.field-0.0 c.in_ok-profile.ensures.ok
          c.in_ok-file.ensures.ok c.deref.ensures.value c.in_err-image.ensures.refused c.in_err-image.ensures.least,
      untouched _ _,
    ))

pub returns-in_err-suppressions : goal.returns-in_err-suppressions
returns-in_err-suppressions g c =
    rw (passed-on c.from_residual-in_err-suppressions.result _ c.from_residual-in_err-suppressions.ensures.1)
    (with-image (g.F.Files.gives c.args.files.now) c.args.order.now c.args.action _ _ _ _ _ _ _
    c.in_ok-profile.ensures.ok c.in_ok-file.ensures.ok
    c.deref.ensures.value c.in_ok-image.ensures.image
    (inl (c.in_err-suppressions.ensures.err, untouched _ _)))

pub returns-in_err-input : goal.returns-in_err-input
returns-in_err-input g c =
    rw (passed-on c.from_residual-in_err-input.result _ c.from_residual-in_err-input.ensures.1)
    (with-image (g.F.Files.gives c.args.files.now) c.args.order.now c.args.action _ _ _ _ _ _ _
    c.in_ok-profile.ensures.ok c.in_ok-file.ensures.ok
    c.deref.ensures.value c.in_ok-image.ensures.image
    (inr (
      c.in_ok-suppressions.suppressions.items,
      c.in_ok-suppressions.ensures.ok,
      inl (c.in_err-input.ensures.err, untouched _ _),
    )))

pub returns-in-Report : goal.returns-in-Report
returns-in-Report g c =
    let told = subst (λ (list : List Rule). Reports
    (IsReportOnce c.in_ok-image.image c.in_ok-input.input.items list c.in-Report.step)
    (g.W.Write.contents c.args.writer.now) (g.W.Write.contents c.print_report.new.writer)
    (end_of c.print_report.result))
    c.deref-in-Report.ensures.value c.print_report.ensures in
    with-all (g.F.Files.gives c.args.files.now) c.args.order.now c.args.action _ _ _ _ _ _ _ _ _
    c.in_ok-profile.ensures.ok c.in_ok-file.ensures.ok
    c.deref.ensures.value c.in_ok-image.ensures.image
    c.in_ok-suppressions.ensures.ok c.in_ok-input.ensures.ok
    (does-report _ c.in-Report.step _ _ _ _ _ _ _ c.in-Report.is told)

pub returns-in-Session : goal.returns-in-Session
returns-in-Session g c =
    with-all (g.F.Files.gives c.args.files.now) c.args.order.now c.args.action _ _ _ _ _ _ _ _ _
    c.in_ok-profile.ensures.ok c.in_ok-file.ensures.ok
    c.deref.ensures.value c.in_ok-image.ensures.image
    c.in_ok-suppressions.ensures.ok c.in_ok-input.ensures.ok
    (does-same _ Session _ _ _ _ _ _ c.in-Session.is c.serve_session.ensures)

pub returns-in-Look : goal.returns-in-Look
returns-in-Look g c =
    with-all (g.F.Files.gives c.args.files.now) c.args.order.now c.args.action _ _ _ _ _ _ _ _ _
    c.in_ok-profile.ensures.ok c.in_ok-file.ensures.ok
    c.deref.ensures.value c.in_ok-image.ensures.image
    c.in_ok-suppressions.ensures.ok c.in_ok-input.ensures.ok
    (does-same _ (Look c.in-Look.asked) _ _ _ _ _ _ c.in-Look.is c.serve_looks.ensures)

pub returns-in-Tries : goal.returns-in-Tries
returns-in-Tries g c =
    with-all (g.F.Files.gives c.args.files.now) c.args.order.now c.args.action _ _ _ _ _ _ _ _ _
    c.in_ok-profile.ensures.ok c.in_ok-file.ensures.ok
    c.deref.ensures.value c.in_ok-image.ensures.image
    c.in_ok-suppressions.ensures.ok c.in_ok-input.ensures.ok
    (does-same _ (Tries c.in-Tries.asked) _ _ _ _ _ _ c.in-Tries.is c.serve_tries.ensures)

pub returns : goal.returns
returns g c =
    with-all (g.F.Files.gives c.args.files.now) c.args.order.now c.args.action _ _ _ _ _ _ _ _ _
    c.in_ok-profile.ensures.ok c.in_ok-file.ensures.ok
    c.deref.ensures.value c.in_ok-image.ensures.image
    c.in_ok-suppressions.ensures.ok c.in_ok-input.ensures.ok
    (does-certify _ c.in-Certify.args _ _ _ _ _ _ _ c.in-Certify.is c.print_certified.ensures)

use Rattle.std.proofs.Common.{◌≤◌, inl, inr, rules}
use Rattle.std.proofs.KnownBytes.{Appends-nil}
use Rattle.exit_status.proofs.EndSteps.{passed-on}
use Rattle.scenario.specs.Limits.{furthest_step}
use Rattle.driver.proofs.Stages.{no-file, no-image, with-program}
use Rattle.driver.proofs.carrying.follow_sweep.Goals as goal

pub returns-in_err-request : goal.returns-in_err-request
returns-in_err-request g c =
    let near : c.args.words.now.step ≤ furthest_step = search rules in
    rw (passed-on c.from_residual.result _ c.from_residual.ensures.1)
    (inr (near, inl (c.in_err-request.ensures.err, Appends-nil _)))

pub returns-in_err-profile : goal.returns-in_err-profile
returns-in_err-profile g c =
    let near : c.args.words.now.step ≤ furthest_step = search rules in
    rw (passed-on c.from_residual-in_err-profile.result _ c.from_residual-in_err-profile.ensures.1)
    (inr (
      near,
      inr (
        c.in_ok-request.request,
        c.in_ok-request.ensures.ok,
        inl (inl c.in_err-profile.ensures.err, Appends-nil _),
      ),
    ))

pub returns-in_err-file : goal.returns-in_err-file
returns-in_err-file g c =
    let near : c.args.words.now.step ≤ furthest_step = search rules in
    let none = no-file (g.F.Files.gives c.args.files.now) c.args.order.now.profile c.args.order.now.file.now _
    c.in_err-file.field-0.0 c.in_ok-profile.ensures.ok c.in_err-file.ensures.err in
    rw (passed-on c.from_residual-in_err-file.result _ c.from_residual-in_err-file.ensures.1)
    (inr (near, inr (c.in_ok-request.request, c.in_ok-request.ensures.ok, inl (none, Appends-nil _))))

pub returns-in_err-image : goal.returns-in_err-image
returns-in_err-image g c =
    let near : c.args.words.now.step ≤ furthest_step = search rules in
    let none = no-image (g.F.Files.gives c.args.files.now) c.args.order.now.profile c.args.order.now.file.now _ _ _
    c.in_err-image.field-0.0 c.in_ok-profile.ensures.ok c.in_ok-file.ensures.ok c.deref.ensures.value
    c.in_err-image.ensures.refused c.in_err-image.ensures.least in
    rw (passed-on c.from_residual-in_err-image.result _ c.from_residual-in_err-image.ensures.1)
    (inr (near, inr (c.in_ok-request.request, c.in_ok-request.ensures.ok, inl (none, Appends-nil _))))

pub returns : goal.returns
returns g c =
    let near : c.args.words.now.step ≤ furthest_step = search rules in
    inr (
      near,
      inr (
        c.in_ok-request.request,
        c.in_ok-request.ensures.ok,
        with-program (g.F.Files.gives c.args.files.now) c.args.order.now c.args.words.now c.in_ok-request.request _ _ _
            _ _ _ _ _ c.in_ok-profile.ensures.ok c.in_ok-file.ensures.ok c.deref.ensures.value
            c.in_ok-image.ensures.image c.deref-2.ensures.value c.sweep_image.ensures,
      ),
    )

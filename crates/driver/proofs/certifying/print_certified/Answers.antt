use Rattle.std.proofs.Common.{◌∙◌, inl, subst}
use Rattle.std.proofs.KnownBytes.{Appends-nil}
use Rattle.exit_status.proofs.EndSteps.{passed-on}
use Rattle.driver.specs.Choosing.{IsNotChosen}
use Rattle.driver.proofs.certifying.print_certified.Goals as goal

pub returns-in_err-chosen_of : goal.returns-in_err-chosen_of
returns-in_err-chosen_of g c =
    let passed = passed-on c.from_residual.result _ c.from_residual.ensures.1 in
    let len = c.len.ensures ∙ c.args.input.ok.0 in
    let refused = c.in_err-chosen_of.ensures.err in
    rw passed (inl (subst (λ n. IsNotChosen c.args.args.now n c.in_err-chosen_of.field-0.0) len refused, Appends-nil _))

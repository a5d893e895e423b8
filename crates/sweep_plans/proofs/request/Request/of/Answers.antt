use Rattle.std.proofs.Common.{inl, inr, refl}
use Rattle.exit_status.proofs.EndSteps.{same-error}
use Rattle.sweep_plans.proofs.request.Request.of.Goals as goal

pub returns-in_err-request-clause-err : goal.returns-in_err-request-clause-err
returns-in_err-request-clause-err c =
    same-error c.from_residual.result _ _ c.from_residual.ensures.1 (inl c.in_err-request.ensures.err)

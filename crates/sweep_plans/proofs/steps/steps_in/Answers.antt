use Rattle.std.proofs.Common.{inl, inr}
use Rattle.exit_status.proofs.EndSteps.{same-error}
use Rattle.sweep_plans.proofs.steps.steps_in.Goals as goal

pub returns-in_err-at-clause-err : goal.returns-in_err-at-clause-err
returns-in_err-at-clause-err c =
    same-error c.from_residual.result _ _ c.from_residual.ensures.1 (inl c.in_err-at.ensures.err)

pub returns-in_err-models-clause-err : goal.returns-in_err-models-clause-err
returns-in_err-models-clause-err c =
    same-error c.from_residual-in_err-models.result _ _ c.from_residual-in_err-models.ensures.1
    (inr (c.in_ok-at.at, c.in_ok-at.ensures.ok, inl c.in_err-models.ensures.err))

pub returns-in_err-code-clause-err : goal.returns-in_err-code-clause-err
returns-in_err-code-clause-err c =
    same-error c.from_residual-in_err-code.result _ _ c.from_residual-in_err-code.ensures.1
    (inr (
      c.in_ok-at.at,
      c.in_ok-at.ensures.ok,
      inr (c.in_ok-models.models, c.in_ok-models.ensures.ok, inl c.in_err-code.ensures.err),
    ))

pub returns-in_err-pairs-clause-err : goal.returns-in_err-pairs-clause-err
returns-in_err-pairs-clause-err c =
    same-error c.from_residual-in_err-pairs.result _ _ c.from_residual-in_err-pairs.ensures.1
    (inr (
      c.in_ok-at.at,
      c.in_ok-at.ensures.ok,
      inr (
        c.in_ok-models.models,
        c.in_ok-models.ensures.ok,
        inr (c.in_ok-code.code, c.in_ok-code.ensures.ok, c.in_err-pairs.ensures.err),
      ),
    ))

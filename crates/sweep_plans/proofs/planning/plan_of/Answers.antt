use Rattle.std.proofs.Common.{ap, inr, sym, ◌∙◌}
use Rattle.exit_status.proofs.EndSteps.{same-error}
use Rattle.sweep_plans.specs.Planned.{bytes_by, bytes_meant}
use Rattle.sweep_plans.proofs.planning.plan_of.Goals as goal

pub returns-in_err-steps-clause-err : goal.returns-in_err-steps-clause-err
unfolding bytes_meant
returns-in_err-steps-clause-err c =
    let bytes = sym (ap (λ b. bytes_by c.args.request.bytes b c.args.len) c.names_others-has_others.ensures)
    ∙ c.in_ok-bytes.ensures.ok in
    same-error c.from_residual-in_err-steps.result _ _ c.from_residual-in_err-steps.ensures.1
    (inr (
      c.in_ok-bytes.bytes,
      bytes,
      inr (
        c.in_ok-words.words,
        c.in_ok-words.ensures.ok,
        inr (
          c.in_ok-instructions.instructions.items,
          c.in_ok-instructions.ensures.ok,
          c.in_err-steps.ensures.err.0,
          c.in_err-steps.ensures.err.1,
        ),
      ),
    ))

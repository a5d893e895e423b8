use Rattle.std.proofs.Common.{inl, inr}
use Rattle.exit_status.proofs.EndSteps.{same-error}
use Rattle.sweep_plans.proofs.request.Request.edits_of.Goals as goal

pub returns-in_err-bytes-clause-err : goal.returns-in_err-bytes-clause-err
returns-in_err-bytes-clause-err c =
    same-error c.from_residual.result _ _ c.from_residual.ensures.1
    (inl c.in_err-bytes.ensures.err)

pub returns-in_err-byte_values-clause-err : goal.returns-in_err-byte_values-clause-err
returns-in_err-byte_values-clause-err c =
    same-error c.from_residual-in_err-byte_values.result _ _ c.from_residual-in_err-byte_values.ensures.1
    (inr (c.in_ok-bytes.bytes, c.in_ok-bytes.ensures.ok, inl c.in_err-byte_values.ensures.err))

pub returns-in_err-named-clause-err : goal.returns-in_err-named-clause-err
returns-in_err-named-clause-err c =
    same-error c.from_residual-in_err-named.result _ _ c.from_residual-in_err-named.ensures.1
    (inr (
      c.in_ok-bytes.bytes,
      c.in_ok-bytes.ensures.ok,
      inr (c.in_ok-byte_values.byte_values, c.in_ok-byte_values.ensures.ok, inl c.in_err-named.ensures.err),
    ))

pub returns-in_err-word_values-clause-err : goal.returns-in_err-word_values-clause-err
returns-in_err-word_values-clause-err c =
    same-error c.from_residual-in_err-word_values.result _ _ c.from_residual-in_err-word_values.ensures.1
    (inr (
      c.in_ok-bytes.bytes,
      c.in_ok-bytes.ensures.ok,
      inr (
        c.in_ok-byte_values.byte_values,
        c.in_ok-byte_values.ensures.ok,
        inr (c.in_ok-named.named, c.in_ok-named.ensures.ok, inl c.in_err-word_values.ensures.err),
      ),
    ))

pub returns-in_err-steps-clause-err : goal.returns-in_err-steps-clause-err
returns-in_err-steps-clause-err c =
    same-error c.from_residual-in_err-steps.result _ _ c.from_residual-in_err-steps.ensures.1
    (inr (
      c.in_ok-bytes.bytes,
      c.in_ok-bytes.ensures.ok,
      inr (
        c.in_ok-byte_values.byte_values,
        c.in_ok-byte_values.ensures.ok,
        inr (
          c.in_ok-named.named,
          c.in_ok-named.ensures.ok,
          inr (c.in_ok-word_values.word_values, c.in_ok-word_values.ensures.ok, inl c.in_err-steps.ensures.err),
        ),
      ),
    ))

pub returns-in_err-part-clause-err : goal.returns-in_err-part-clause-err
returns-in_err-part-clause-err c =
    same-error c.from_residual-in_err-part.result _ _ c.from_residual-in_err-part.ensures.1
    (inr (
      c.in_ok-bytes.bytes,
      c.in_ok-bytes.ensures.ok,
      inr (
        c.in_ok-byte_values.byte_values,
        c.in_ok-byte_values.ensures.ok,
        inr (
          c.in_ok-named.named,
          c.in_ok-named.ensures.ok,
          inr (
            c.in_ok-word_values.word_values,
            c.in_ok-word_values.ensures.ok,
            inr (c.in_ok-steps.steps, c.in_ok-steps.ensures.ok, c.in_err-part.ensures.err),
          ),
        ),
      ),
    ))

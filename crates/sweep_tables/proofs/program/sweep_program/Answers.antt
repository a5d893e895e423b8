use Rattle.std.proofs.Common.{◌≡◌, rules, inl, inr, ◌∙◌, subst, length}
use Rattle.std.proofs.KnownBytes.{Appends-nil}
use Rattle.std.specs.Prelude.{vec_len}
use Rattle.exit_status.proofs.EndSteps.{passed-on}
use Rattle.sweep_plans.specs.Planned.{HasNoPlan, IsPlanOf}
use Rattle.sweep_tables.proofs.program.sweep_program.Goals as goal

pub returns-in_err-plan : goal.returns-in_err-plan
returns-in_err-plan g c =
    let counted : vec_len c.args.material.input ≡ length c.args.material.input.items = search rules in
    rw (passed-on c.from_residual.result _ c.from_residual.ensures.1) (inl (
      subst (λ n. HasNoPlan c.args.request c.args.material.image n c.args.words.now.step c.in_err-plan.field-0.0)
          (c.len.ensures ∙ counted)
          c.in_err-plan.ensures.err,
      Appends-nil _,
    ))

pub returns : goal.returns
returns g c =
    let counted : vec_len c.args.material.input ≡ length c.args.material.input.items = search rules in
    let plan = subst (λ n. IsPlanOf c.args.request c.args.material.image n c.args.words.now.step c.in_ok-plan.plan)
    (c.len.ensures ∙ counted)
    c.in_ok-plan.ensures.ok in
    inr (c.in_ok-plan.plan, plan, c.sweep_part.ensures)

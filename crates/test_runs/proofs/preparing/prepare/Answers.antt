use Rattle.std.proofs.Common.{◌≡◌, ◌∙◌, [], ap, inl, inr, refl, subst, sym, IfOk}
use Rattle.command_line.specs.Orders.{input_path}
use Rattle.exit_status.proofs.EndSteps.{same-error}
use Rattle.exit_status.specs.declared.exec_ends.ExecEnd.TheVariants.{Early}
use Rattle.scenario.specs.Scenario.{Scenario}
use Rattle.test_runs.specs.Prepared.{MakesFrom, NotFrom}
use Rattle.test_runs.proofs.Stages.{no-input}
use Rattle.test_runs.proofs.preparing.prepare.Goals as goal

pub returns-in_err-suppressions-clause-err : goal.returns-in_err-suppressions-clause-err
returns-in_err-suppressions-clause-err g c =
    same-error c.from_residual.result (Early c.in_err-suppressions.field-0.0) _ c.from_residual.ensures.1
    (inr (inl (c.in_err-suppressions.field-0.0, refl, c.in_err-suppressions.ensures.err)))

pub returns-in_err-input-clause-err : goal.returns-in_err-input-clause-err
returns-in_err-input-clause-err g c =
    same-error c.from_residual-in_err-input.result (Early c.in_err-input.field-0.0) _
    c.from_residual-in_err-input.ensures.1 (inr (inr (
      c.in_ok-suppressions.suppressions.items,
      c.in_ok-suppressions.ensures.ok,
      inl (c.in_err-input.field-0.0, refl, c.in_err-input.ensures.err),
    )))

pub returns-in_err-edit_all-clause-err : goal.returns-in_err-edit_all-clause-err
returns-in_err-edit_all-clause-err g c =
    same-error c.from_residual-in_err-edit_all.result c.in_err-edit_all.field-0.0 _
    c.from_residual-in_err-edit_all.ensures.1 (elim c.in_err-edit_all.ensures.err [
      | inl memory ↦ inl memory
      | inr none ↦ inr (inr (
        c.in_ok-suppressions.suppressions.items,
        c.in_ok-suppressions.ensures.ok,
        inr (
          c.in_ok-input.input.items,
          c.in_ok-input.ensures.ok,
          subst (λ (sc : Scenario). NotFrom c.args.asked.now c.args.kinds sc c.in_err-edit_all.field-0.0)
              c.in-Ok.ensures none,
        ),
      ))
    ])

pub returns-clause-ok : goal.returns-clause-ok
returns-clause-ok g c = (
  c.in_ok-suppressions.suppressions.items,
  c.in_ok-input.input.items,
  c.in_ok-suppressions.ensures.ok,
  c.in_ok-input.ensures.ok,
  subst (λ (sc : Scenario). MakesFrom c.args.asked.now c.args.kinds sc c.edit_all.new.scenario) c.in-Ok.ensures
      c.in_ok-edit_all.ensures.ok,
)

pub returns-clause-marks : goal.returns-clause-marks
returns-clause-marks g c = c.in_ok-edit_all.ensures.kept.0 ∙ ap (λ (sc : Scenario). sc.marks) c.in-Ok.ensures

pub returns-clause-empty : goal.returns-clause-empty
returns-clause-empty g c none =
    c.in_ok-edit_all.ensures.kept.1 ∙ ap (λ (sc : Scenario). sc.setup.input) c.in-Ok.ensures
    ∙ no-input (g.F.Files.gives c.args.files.now) (input_path c.args.order.now) c.in_ok-input.input.items none
    c.in_ok-input.ensures.ok

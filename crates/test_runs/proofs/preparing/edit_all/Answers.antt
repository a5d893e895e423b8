use Rattle.std.proofs.Common.{◌≡◌, ◌∙◌, ap, inl, inr, refl, subst, sym}
use Rattle.exit_status.proofs.EndSteps.{same-error}
use Rattle.scenario.specs.Scenario.{Scenario}
use Rattle.test_runs.specs.Prepared.{IsEdited, IsOptionRefused, option_edits}
use Rattle.test_runs.proofs.Stages.{keeps-on, weaker-err, weaker-on}
use Rattle.test_runs.proofs.preparing.edit_all.Goals as goal

pub returns-in_err-choose_all-clause-err : goal.returns-in_err-choose_all-clause-err
returns-in_err-choose_all-clause-err c =
    same-error c.from_residual.result c.in_err-choose_all.field-0.0 _ c.from_residual.ensures.1
    (elim c.in_err-choose_all.ensures.err [
      | inl memory ↦ inl memory
      | inr refused ↦ inr (inl (
        subst (IsOptionRefused (option_edits c.args.asked.now c.args.kinds)) c.choose.ensures refused.0,
        refused.1,
      ))
    ])

pub returns-clause-ok : goal.returns-clause-ok
returns-clause-ok c =
    weaker-on c.patch_in_list.result _ _ (λ patched. (
      c.choose_all.new.scenario,
      subst (λ (sc : Scenario). IsEdited (option_edits c.args.asked.now c.args.kinds) sc c.choose_all.new.scenario)
          c.choose.ensures c.in_ok-choose_all.ensures.ok,
      patched,
    )) c.patch_in_list.ensures.ok

pub returns-clause-err : goal.returns-clause-err
returns-clause-err c =
    weaker-err c.patch_in_list.result _ _ (λ end none. inr (inr (
      c.choose_all.new.scenario,
      subst (λ (sc : Scenario). IsEdited (option_edits c.args.asked.now c.args.kinds) sc c.choose_all.new.scenario)
          c.choose.ensures c.in_ok-choose_all.ensures.ok,
      none,
    ))) c.patch_in_list.ensures.err

pub returns-clause-kept : goal.returns-clause-kept
returns-clause-kept c =
    weaker-on c.patch_in_list.result _ _ (λ kept. keeps-on c.args.scenario.now c.choose_all.new.scenario
    c.patch_in_list.new.scenario
    (keeps-on c.args.scenario.now c.choose.new.self c.choose_all.new.scenario
    (ap (λ (sc : Scenario). sc.marks) c.choose.ensures, ap (λ (sc : Scenario). sc.setup.input) c.choose.ensures)
    c.in_ok-choose_all.ensures.kept) kept) c.patch_in_list.ensures.kept

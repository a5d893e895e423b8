use Rattle.std.proofs.Common.{◌-◌, List, length, ap}
use Rattle.run_values.specs.declared.alteration.Alteration.{Alteration}
use Rattle.sweeps.proofs.ChangeSteps.{made, mark-back}
use Rattle.sweeps.proofs.outcomes.unmark.Goals as goal

pub returns : goal.returns
returns c sc step glitch left =
    mark-back sc c.args.scenario.now c.edit-cannot_fail.new.self step glitch _ left
    (ap (λ (marks : List Alteration). length marks - 1) c.marks.ensures)
    (made c.edit-cannot_fail.result _ _ c.edit-cannot_fail.ensures.ok c.edit-cannot_fail.ensures.err)

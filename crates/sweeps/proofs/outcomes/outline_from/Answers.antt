use Rattle.std.proofs.Common.{refl}
use Rattle.std.proofs.lemmas.Result.{IfOk-weaker}
use Rattle.scenario.specs.Scenario.{IsOutlineOf, chosen_state}
use Rattle.sweeps.proofs.ForkSteps.{shown-edited}
use Rattle.sweeps.proofs.outcomes.outline_from.Goals as goal

pub returns : goal.returns
unfolding IsOutlineOf
returns c =
    let sc = c.args.scenario.now in
    IfOk-weaker c.outline.result _ _ (λ text told one last leads fork. told (chosen_state sc)
    (shown-edited c.args.effect one c.args.fork.now sc sc.setup sc.marks sc.step last c.in_ok-machine.machine refl refl
    refl (c.in_ok-machine.ensures last) leads fork)) c.outline.ensures

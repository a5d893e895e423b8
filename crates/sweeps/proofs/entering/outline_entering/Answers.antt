use Rattle.std.proofs.lemmas.Result.{IfOk-weaker}
use Rattle.scenario.specs.Scenario.{IsOutlineOf, chosen_state}
use Rattle.sweeps.proofs.CoverSteps.{entered-for}
use Rattle.sweeps.proofs.ForkSteps.{shown-edited}
use Rattle.sweeps.proofs.entering.outline_entering.Goals as goal

pub returns-clause-outline : goal.returns-clause-outline
unfolding IsOutlineOf
returns-clause-outline c =
    let sc = c.args.scenario.now in
    IfOk-weaker c.outline.result _ _ (λ text told one last leads fork. told (chosen_state sc)
    (shown-edited c.args.effect one c.args.fork.now sc c.setup.result.now c.marks.result.now c.step.result last
    c.in_ok-machine.machine c.setup.ensures c.marks.ensures c.step.ensures (c.in_ok-machine.ensures.shows last) leads
    fork)) c.outline.ensures

pub returns-clause-entered : goal.returns-clause-entered
returns-clause-entered c =
    IfOk-weaker c.outline.result _ _ (λ text told. (
      c.in_ok-machine.ensures.rows,
      entered-for c.args.effect c.args.fork.now c.args.scenario.now c.setup.result.now c.marks.result.now c.step.result
          c.args.first c.args.table.now.items c.follow_entering.new.table.items c.setup.ensures c.marks.ensures
          c.step.ensures c.in_ok-machine.ensures.also,
    )) c.outline.ensures

use Rattle.std.proofs.lemmas.Result.{IfOk-weaker}
use Rattle.scenario.specs.Scenario.{IsOutlineOf, chosen_state}
use Rattle.scenario.proofs.TrailFacts.{moved, shown}
use Rattle.sweeps.proofs.ForkSteps.{still-loads}
use Rattle.sweeps.proofs.held_run.HeldRun.outline.Goals as goal

pub returns-clause-outline : goal.returns-clause-outline
unfolding IsOutlineOf
returns-clause-outline c =
    let self = c.args.self.now in
    let shows = shown self.scenario c.setup.result.now c.marks.result.now c.step.result self.trail
    c.in_ok-machine.machine c.setup.ensures c.marks.ensures c.step.ensures c.in_ok-machine.ensures.shows self.right in
    IfOk-weaker c.outline.result _ _ (λ text told. told (chosen_state self.scenario) shows) c.outline.ensures

pub invariant_of-self : goal.invariant_of-self
invariant_of-self c =
    let self = c.args.self.now in record {
      loads = still-loads self.trail c.at_altered.new.self self.scenario.image c.at_altered.ensures.loaded self.loads;
      right = moved self.scenario c.setup.result.now c.marks.result.now self.trail c.at_altered.new.self
          c.setup.ensures c.marks.ensures c.at_altered.ensures.right self.right;
    }

pub invariant_of-self-2 : goal.invariant_of-self-2
invariant_of-self-2 c =
    let self = c.args.self.now in record {
      loads = still-loads self.trail c.at_altered.new.self self.scenario.image c.at_altered.ensures.loaded self.loads;
      right = moved self.scenario c.setup.result.now c.marks.result.now self.trail c.at_altered.new.self
          c.setup.ensures c.marks.ensures c.at_altered.ensures.right self.right;
    }

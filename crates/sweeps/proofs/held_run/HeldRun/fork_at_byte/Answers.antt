use Rattle.std.proofs.lemmas.Result.{IfOk-weaker}
use Rattle.checkpoints.specs.declared.effect.Effect.TheVariants.{Input}
use Rattle.scenario.proofs.TrailFacts.{moved}
use Rattle.sweeps.proofs.ForkSteps.{fork-for, still-loads}
use Rattle.sweeps.proofs.held_run.HeldRun.fork_at_byte.Goals as goal

pub returns-clause-fork : goal.returns-clause-fork
returns-clause-fork c =
    IfOk-weaker c.fork_at_byte.result _ _
    (λ fork is. fork-for (λ marks. Input c.args.offset) c.args.self.now.scenario c.setup.result.now
    c.marks.result.now c.step.result c.args.self.now.trail fork c.setup.ensures c.marks.ensures c.step.ensures is
    c.args.self.now.right) c.fork_at_byte.ensures.fork

pub invariant_of-self : goal.invariant_of-self
invariant_of-self c =
    let self = c.args.self.now in record {
      loads = still-loads self.trail c.fork_at_byte.new.self self.scenario.image c.fork_at_byte.ensures.loaded
          self.loads;
      right = moved self.scenario c.setup.result.now c.marks.result.now self.trail c.fork_at_byte.new.self
          c.setup.ensures c.marks.ensures c.fork_at_byte.ensures.right self.right;
    }

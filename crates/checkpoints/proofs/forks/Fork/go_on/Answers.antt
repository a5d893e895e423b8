use Rattle.std.proofs.Common.{refl}
use Rattle.checkpoints.specs.declared.effect.Effect.TheVariants.{After}
use Rattle.checkpoints.proofs.MarkSteps.{shows-along}
use Rattle.checkpoints.proofs.ForkSteps.{pre-led, step-is-last}
use Rattle.checkpoints.proofs.forks.Fork.go_on.Goals as goal

pub returns-clause-fork : goal.returns-clause-fork
returns-clause-fork c s one start last within l fork =
    let same = pre-led (record {
      input = c.keeps_input.ensures;
      end = c.keeps_end.ensures;
      reads = c.reads_on.ensures;
      stays = c.end_stays.ensures;
      heap = c.keeps_heap.ensures;
    })
    (record { pokes = c.keeps_pokes.ensures; isa = c.keeps_isa.ensures }) (After s) one
    (record { start = start; setup = c.args.setup.now; marks = c.args.marks.now }) c.args.self.now.step
    fork.whole l fork.step.hidden in
    record {
      whole = tt;
      shows = c.in_ok-machine.ensures.shows start
          (shows-along _ _ _ _ refl same (c.in_ok-copy.ensures _ fork.shows));
      step =
          step-is-last c.args.step last
          (record { start = start; setup = c.args.setup.now; marks = c.args.marks.now }) within;
    }

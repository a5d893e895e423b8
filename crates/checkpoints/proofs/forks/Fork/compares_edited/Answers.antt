use Rattle.std.proofs.Common.{refl}
use Rattle.checkpoints.proofs.MarkSteps.{shows-along}
use Rattle.checkpoints.proofs.ForkSteps.{pre-led}
use Rattle.checkpoints.proofs.forks.Fork.compares_edited.Goals as goal

pub returns : goal.returns
returns c one start last l fork =
    let same = pre-led (record {
      input = c.keeps_input.ensures;
      end = c.keeps_end.ensures;
      reads = c.reads_on.ensures;
      stays = c.end_stays.ensures;
      heap = c.keeps_heap.ensures;
    })
    (record { pokes = c.keeps_pokes.ensures; isa = c.keeps_isa.ensures }) c.args.effect one
    (record { start = start; setup = c.args.setup.now; marks = c.args.marks.now }) c.args.self.now.step
    fork.whole l fork.step.hidden in
    c.in_ok-found.ensures start (shows-along _ _ _ _ refl same (c.in_ok-written.ensures _ fork.shows))

use Rattle.checkpoints.specs.Effects.{EffectShows}
use Rattle.checkpoints.proofs.EffectSteps.{right-cut, keeps-cut}
use Rattle.checkpoints.proofs.trail.Trail.cut.Goals as goal

pub returns-clause-right : goal.returns-clause-right
returns-clause-right c start setup other marks edited d h =
    right-cut (record {
      input = c.keeps_input.ensures;
      end = c.keeps_end.ensures;
      reads = c.reads_on.ensures;
      stays = c.end_stays.ensures;
      heap = c.keeps_heap.ensures;
    })
    c.args.effect c.args.self.now _ c.held_before-kept.result c.keep.ensures.machines c.keep.ensures.table
    c.keep.ensures.spacing c.held_before-kept.ensures.some start setup other marks edited
    (c.held_before-kept.ensures.last start setup marks h) d h

pub returns-clause-kept : goal.returns-clause-kept
returns-clause-kept c start setup marks h =
    keeps-cut (EffectShows c.args.effect start setup marks) c.args.self.now _ c.held_before-kept.result
    c.keep.ensures.machines c.keep.ensures.spacing c.held_before-kept.ensures.some
    (λ i up l. c.held_before-kept.ensures.from i up l start setup marks h)
    (c.held_before-kept.ensures.last start setup marks h)

pub returns-clause-machines : goal.returns-clause-machines
returns-clause-machines c = (c.held_before-kept.result, c.held_before-kept.ensures.some, c.keep.ensures.machines)

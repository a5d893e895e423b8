use Rattle.std.proofs.Common.{◌-◌, ◌*◌, ◌∙◌, arith, length, refl, sym}
use Rattle.checkpoints.specs.Trails.{last_held, machines_of, spacing_of}
use Rattle.checkpoints.proofs.HeldSteps.{held-at}
use Rattle.checkpoints.proofs.TrailSteps.{some-held}
use Rattle.checkpoints.proofs.trail.Trail.is_at_rest.Goals as goal

pub returns-clause-halted : goal.returns-clause-halted
unfolding machines_of last_held spacing_of
returns-clause-halted c rests start setup h =
    let trail = c.args.self.now in
    let ms = machines_of trail in
    let newest = c.newest-newest.result.now in
    let last = length ms - 1 in
    sym (c.is_running.ensures _
    (held-at trail.spacing ms newest last (trail.spacing * last) start setup c.args.marks.now h.held
    c.newest-newest.ensures (omega (arith, some-held trail)) refl)) ∙ c.if-is_running.false

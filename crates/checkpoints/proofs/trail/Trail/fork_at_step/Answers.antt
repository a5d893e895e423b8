use Rattle.std.proofs.Common.{◌-◌, ◌*◌, ◌+◌, ◌∙◌, ap, length, min}
use Rattle.std.proofs.lemmas.Result.{IfOk-weaker}
use Rattle.checkpoints.specs.Trails.{last_held, machines_of, meter_of, spacing_of}
use Rattle.checkpoints.specs.declared.effect.Effect.TheVariants.{After}
use Rattle.checkpoints.proofs.ForkSteps.{at-ok, step-is-last}
use Rattle.checkpoints.proofs.SpacingSteps.{last-past, steps-past}
use Rattle.checkpoints.proofs.TrailSteps.{some-held}
use Rattle.checkpoints.proofs.trail.Trail.fork_at_step.Goals as goal

pub returns-clause-fork : goal.returns-clause-fork
returns-clause-fork c =
    IfOk-weaker c.fork_at.result _ _
    (λ fork is start right. is (After c.args.step) c.args.last tt
    (λ begun held. step-is-last c.args.step c.args.last
    (record { start = begun; setup = c.args.setup.now; marks = c.args.marks.now }) c.requires.within)
    start (c.in_ok-reach.ensures.right start right)) c.fork_at.ensures.fork

pub returns-clause-held : goal.returns-clause-held
unfolding last_held spacing_of
returns-clause-held c =
    let old = c.args.self.now in
    let machines = machines_of c.reach.new.self in
    at-ok c.fork_at.result _
    (ap (λ s. s * (length machines - 1)) c.in_ok-reach.ensures.spacing
    ∙ last-past (spacing_of old) (length (machines_of old)) c.args.step _ (some-held old)
    c.in_ok-reach.ensures.held)

pub returns-clause-meter : goal.returns-clause-meter
unfolding last_held meter_of spacing_of
returns-clause-meter c =
    let old = c.args.self.now in
    at-ok c.fork_at.result _
    (c.in_ok-reach.ensures.meter ∙ ap (λ n. min (meter_of old + n) 18446744073709551615)
    (steps-past (spacing_of old) (length (machines_of old)) c.args.step (some-held old)))

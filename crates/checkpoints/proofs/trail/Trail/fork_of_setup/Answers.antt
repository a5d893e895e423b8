use Rattle.std.proofs.Common.{◌-◌, ◌*◌, ◌+◌, ◌∙◌, ap, length, min}
use Rattle.std.proofs.lemmas.Result.{IfOk-weaker}
use Rattle.checkpoints.specs.Trails.{last_held, machines_of, meter_of, spacing_of}
use Rattle.checkpoints.proofs.ForkSteps.{at-ok, whole-of-setup}
use Rattle.checkpoints.proofs.SpacingSteps.{last-past, steps-past}
use Rattle.checkpoints.proofs.TrailSteps.{some-held}
use Rattle.checkpoints.proofs.trail.Trail.fork_of_setup.Goals as goal

pub returns-clause-fork : goal.returns-clause-fork
returns-clause-fork c =
    IfOk-weaker c.fork_at.result _ _
    (λ fork is start h. is c.args.effect c.args.last (whole-of-setup c.args.effect c.requires.of)
    c.in_ok-step.ensures.step start (c.in_ok-reach.ensures.right start h)) c.fork_at.ensures.fork

pub returns-clause-held : goal.returns-clause-held
unfolding last_held spacing_of
returns-clause-held c =
    let old = c.args.self.now in
    let machines = machines_of c.reach.new.self in
    at-ok c.fork_at.result _
    (ap (λ s. s * (length machines - 1)) c.in_ok-reach.ensures.spacing
    ∙ last-past (spacing_of old) (length (machines_of old)) c.args.last _ (some-held old)
    c.in_ok-reach.ensures.held)

pub returns-clause-meter : goal.returns-clause-meter
unfolding last_held meter_of spacing_of
returns-clause-meter c =
    let old = c.args.self.now in
    at-ok c.fork_at.result _
    (c.in_ok-reach.ensures.meter ∙ ap (λ n. min (meter_of old + n) 18446744073709551615)
    (steps-past (spacing_of old) (length (machines_of old)) c.args.last (some-held old)))

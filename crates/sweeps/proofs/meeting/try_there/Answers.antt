use Rattle.std.proofs.Common.{◌∙◌, sym}
use Rattle.sweeps.specs.Standing.{state_before}
use Rattle.sweeps.proofs.RecallSteps.{before-there}
use Rattle.sweeps.proofs.meeting.try_there.Goals as goal

pub try_step-requires-clause-before : goal.try_step-requires-clause-before
try_step-requires-clause-before c =
    before-there c.args.scenario.now c.in-Step.step c.in-Step.pc c.in-Step.is_half c.args.site.now c.in-Step.is
    c.requires.unmarked c.requires.stands c.requires.below c.requires.fork

pub try_step-requires-clause-runs : goal.try_step-requires-clause-runs
try_step-requires-clause-runs c =
    sym (c.is_running.ensures (state_before c.args.scenario.now c.in-Step.step)
    (before-there c.args.scenario.now c.in-Step.step c.in-Step.pc c.in-Step.is_half c.args.site.now c.in-Step.is
    c.requires.unmarked c.requires.stands c.requires.below c.requires.fork).shows) ∙ c.if-is_running.true

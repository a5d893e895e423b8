use Rattle.std.proofs.Common.{◌≤◌, ◌∙◌, length, arith}
use Rattle.error_events.specs.declared.parameter.Parameter.TheVariants.{SyscallNumber}
use Rattle.guest_machine.specs.Doing.{noted_of}
use Rattle.guest_machine.specs.Shows.{core_of}
use Rattle.guest_machine.proofs.TestSteps.{tested-step, errors-step, tested-end, errors-end}
use Rattle.guest_machine.proofs.machine.Guest.test_parameters.Goals as goal

pub loop-parameter-preserved : goal.loop-parameter-preserved
loop-parameter-preserved c =
    let loop = c.loop-parameter in
    let inv = loop.invariant in
    let i = loop.parameter-index in
    let r = c.new.result in
    let ps = c.args.parameters.now in
    let more = c.loop-parameter-test.true in
    let after = c.test.new.self in
    let made = c.in_ok-test.ensures in
    record {
      number = omega (arith, inv.number);
      core =
          tested-step (core_of loop.self) (core_of after) r loop.r i SyscallNumber ps more c.new.ensures made.core
          ∙ inv.core;
      noted =
          errors-step (core_of loop.self) (core_of after) (noted_of loop.self.noted) (noted_of after.noted) r loop.r i _
          ps more c.new.ensures made.core made.noted
          ∙ inv.noted;
      memory = made.memory ∙ inv.memory;
      progress = made.progress ∙ inv.progress;
      heap = made.heap ∙ inv.heap;
    }

pub returns : goal.returns
returns c =
    let loop = c.loop-parameter in
    let inv = loop.invariant in
    let ps = c.args.parameters.now in
    let past : length ps ≤ loop.parameter-index = c.loop-parameter-test.false in
    record {
      core = tested-end (core_of loop.self) loop.r loop.parameter-index ps past ∙ inv.core;
      memory = inv.memory;
      progress = inv.progress;
      heap = inv.heap;
      noted = errors-end (core_of loop.self) (noted_of loop.self.noted) loop.r loop.parameter-index ps past ∙ inv.noted;
    }

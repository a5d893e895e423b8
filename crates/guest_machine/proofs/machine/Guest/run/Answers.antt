use Rattle.std.proofs.Common.{◌≡◌, ◌≤◌, false, sym, arith}
use Rattle.guest_machine.specs.Exec.{is_running}
use Rattle.guest_machine.specs.Shows.{core_of}
use Rattle.guest_machine.proofs.Running.{begins, goes-on, rests}
use Rattle.guest_machine.proofs.machine.Guest.run.Goals as goal

pub loop-step-init : goal.loop-step-init
loop-step-init c = record {
  holds = λ s h. begins c.args.self.now s c.args.setup.now h;
}

pub returns-then-not-runs : goal.returns-then-not-runs
returns-then-not-runs c s h =
    let halted : is_running (core_of c.loop-step.self).status ≡ false = sym c.if-not-runs.ensures in
    let within : c.loop-step._step ≤ c.args.steps = omega (arith, c.loop-step-test.true) in
    rests c.loop-step.self s c.args.setup.now c.loop-step._step c.args.steps within halted
    (c.loop-step.invariant.holds s h)

pub loop-step-preserved : goal.loop-step-preserved
loop-step-preserved c = record {
  holds =
      λ s h. goes-on c.step_on.new.self s c.args.setup.now c.loop-step._step
      (c.in_ok-_touched.ensures.holds _ (c.loop-step.invariant.holds s h));
}

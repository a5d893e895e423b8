use Rattle.guest_machine.proofs.Running.{begins, goes-on}
use Rattle.guest_machine.proofs.StreamSteps.{quiet-held, quiet-more, quiet-none}
use Rattle.guest_machine.proofs.machine.Guest.run_quietly.Goals as goal

pub loop-step-init : goal.loop-step-init
loop-step-init c = record {
  holds = λ s h. begins c.args.self.now s c.args.setup.now h;
  quiet = λ s h. quiet-none s c.args.setup.now;
}

pub loop-step-preserved : goal.loop-step-preserved
loop-step-preserved c = record {
  holds =
      λ s h. goes-on c.step_on.new.self s c.args.setup.now c.loop-step.step
      (c.in_ok-_touched.ensures.holds _ (c.loop-step.invariant.holds s h));
  quiet =
      λ s h. quiet-more s c.args.setup.now c.loop-step.step (c.loop-step.invariant.quiet s h)
      (quiet-held c.loop-step.self _ c.args.setup.now (c.may_call.ensures c.if-may_call.false)
      (c.loop-step.invariant.holds s h));
}

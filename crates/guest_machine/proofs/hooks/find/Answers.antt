use Rattle.guest_machine.proofs.HookSteps.{hook_got}
use Rattle.guest_machine.proofs.hooks.find.Goals as goal

pub returns-in-Some : goal.returns-in-Some
returns-in-Some c =
    let got = c.in-Some.ensures.lookup in
    hook_got c.args.entries.now c.args.addr c.below-place.result c.in-Some.field-0.now got.3.0 got.1
    c.below-place.ensures.before c.if-start-addr.true

use Rattle.std.proofs.Common.{ap, arith, length, refl}
use Rattle.call_stacks.proofs.Lists.{same_lists}
use Rattle.call_stacks.proofs.stack.CallStack.is_same.Goals as goal

pub returns : goal.returns
returns c =
    let held = ap length c.self.view_is in
    let given = ap length c.other.view_is in (
      (λ _. same_lists c.args.self.now c.args.other.now (omega (arith, held, given))
          (λ k inside. c.loop-i.invariant k (omega (arith, held)))),
      (λ _. refl),
    )

use Rattle.std.proofs.Common.{◌≡◌, ap, sym, ◌∙◌, length, arith}
use Rattle.std.specs.List.{slice_get}
use Rattle.call_stacks.proofs.Stacks.{found, missing}
use Rattle.call_stacks.proofs.stack.CallStack.newest_returning_to.Goals as goal

pub returns-then-frame-target : goal.returns-then-frame-target
returns-then-frame-target c =
    sym (found c.args.self.now c.args.target c.loop-i.i c.in-Some.frame.now c.loop-i.invariant
    (ap (λ xs. slice_get xs c.loop-i.i) (sym c.self.view_is) ∙ sym c.in-Some.ensures) c.if-frame-target.true)

pub returns : goal.returns
returns c =
    let all : c.loop-i.i ≡ length c.args.self.now = omega (arith, ap length c.self.view_is) in
    sym (missing c.args.self.now c.args.target c.loop-i.i all c.loop-i.invariant)

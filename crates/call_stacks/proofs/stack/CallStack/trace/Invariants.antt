use Rattle.std.proofs.Common.{◌≡◌, ◌∷◌, map, take}
use Rattle.call_stacks.proofs.stack.CallStack.trace.Given as goal

abbrev pub invariant-loop-i : goal.invariant-loop-i
invariant-loop-i l = l.trace ≡ l.pc ∷ map (λ frame. frame.site) (take l.i l.self)

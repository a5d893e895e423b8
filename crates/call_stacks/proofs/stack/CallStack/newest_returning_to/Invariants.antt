use Rattle.call_stacks.proofs.Stacks.{NoneBelow}
use Rattle.call_stacks.proofs.stack.CallStack.newest_returning_to.Given as goal

abbrev pub invariant-loop-i : goal.invariant-loop-i
invariant-loop-i l = NoneBelow l.self l.target l.i

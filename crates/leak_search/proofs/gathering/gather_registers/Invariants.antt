use Rattle.leak_search.specs.Gathering.{Gains, RegisterBelow, listed}
use Rattle.leak_search.proofs.gathering.gather_registers.Given as goal

abbrev pub invariant-loop-number : goal.invariant-loop-number
invariant-loop-number l = Gains (RegisterBelow (listed l.registers) l.blocks l.number) l.fn.roots.items l.roots.items

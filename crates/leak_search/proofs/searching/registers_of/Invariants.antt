use Rattle.std.proofs.Common.{◌≡◌, ℕ, ◌<◌, length}
use Rattle.guest_machine.specs.State.{State}
use Rattle.guest_machine.specs.Shows.{Shows}
use Rattle.guest_machine.specs.Registers.{register}
use Rattle.leak_search.specs.Gathering.{listed}
use Rattle.leak_search.proofs.searching.registers_of.Given as goal

abbrev pub invariant-loop-number : goal.invariant-loop-number
invariant-loop-number l = record {
  len : length l.registers ≡ 32;
  same : (s : State) → Shows l.machine s → (r : ℕ) → r < l.number → listed l.registers r ≡ register s.core r;
}

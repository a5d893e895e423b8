use Rattle.std.proofs.Common.{◌≡◌, length}
use Rattle.guest_machine.specs.Sieve.{AreMarked}
use Rattle.guest_machine.proofs.hooks.sieve_of.Given as goal

abbrev pub invariant-loop-start : goal.invariant-loop-start
invariant-loop-start l = record { len : length l.sieve ≡ 64; marked : AreMarked l.sieve l.entries l.start-index }

use Rattle.std.proofs.Common.{[]}
use Rattle.guest_machine.specs.State.{State}
use Rattle.guest_machine.specs.Run.{pre}
use Rattle.guest_machine.specs.Shows.{Holds}
use Rattle.guest_machine.specs.Streams.{IsQuietFor}
use Rattle.guest_machine.proofs.machine.Guest.run_quietly.Given as goal

abbrev pub invariant-loop-step : goal.invariant-loop-step
invariant-loop-step l = record {
  holds : (s : State) → Holds l.fn.self s → Holds l.self (pre s l.setup [] l.step);
  quiet : (s : State) → Holds l.fn.self s → IsQuietFor s l.setup l.step;
}

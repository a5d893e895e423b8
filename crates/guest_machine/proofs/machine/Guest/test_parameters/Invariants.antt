-- What is left to test leads to the same as all.
use Rattle.std.proofs.Common.{◌≡◌, ◌+◌, drop}
use Rattle.guest_machine.specs.Calls.{tested_from, errors_from}
use Rattle.guest_machine.specs.Doing.{noted_of, note_events}
use Rattle.guest_machine.specs.Shows.{core_of}
use Rattle.guest_machine.proofs.machine.Guest.test_parameters.Given as goal

abbrev pub invariant-loop-parameter : goal.invariant-loop-parameter
invariant-loop-parameter l = record {
  number : l.r ≡ 10 + l.parameter-index;
  core : tested_from (core_of l.self) l.r (drop l.parameter-index l.parameters)
      ≡ tested_from (core_of l.fn.self) 10 l.parameters;
  noted :
      note_events (noted_of l.self.noted) (errors_from (core_of l.self) l.r (drop l.parameter-index l.parameters))
      ≡ note_events (noted_of l.fn.self.noted) (errors_from (core_of l.fn.self) 10 l.parameters);
  memory : l.self.memory ≡ l.fn.self.memory;
  progress : l.self.progress ≡ l.fn.self.progress;
  heap : l.self.heap ≡ l.fn.self.heap;
}

use Rattle.std.proofs.Common.{◌-◌, ◌/◌}
use Rattle.guest_machine.specs.DecodeCaches.{AreLeftBut}
use Rattle.guest_machine.proofs.decode_table.drop_met.Given as goal

abbrev pub invariant-loop-number : goal.invariant-loop-number
invariant-loop-number l =
    AreLeftBut l.initial.entries.items l.entries.items l.start l.n l.len ((l.start - l.len) / l.len) l.number

use Rattle.std.proofs.Common.{◌-◌, ◌≤◌, Some}
use Rattle.std.specs.Io.KnownBytes.{Appends}
use Rattle.shadow_memory.specs.Memories.{bytes_in}
use Rattle.guest_machine.specs.Streams.{bytes_over}
use Rattle.test_runs.proofs.Parts.{span}
use Rattle.test_runs.proofs.speaking.send_range.Given as goal

abbrev pub invariant-loop-done : goal.invariant-loop-done
invariant-loop-done g l = record {
  within : l.done ≤ l.range.len;
  sent : Appends (g.W.Write.contents l.fn.writer) (g.W.Write.contents l.writer)
      (bytes_over (bytes_in l.memory) (Some (span l.range.start l.done)));
}

abbrev pub decreases-loop-done : goal.decreases-loop-done
decreases-loop-done g l = l.range.len - l.done

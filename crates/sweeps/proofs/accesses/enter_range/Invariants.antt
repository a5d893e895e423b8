use Rattle.std.proofs.Common.{◌≡◌, ℕ, ◌<◌, ◌^◌, if◌then◌else◌}
use Rattle.shadow_memory.specs.Memories.{bytes_in}
use Rattle.shadow_memory.specs.Ranges.{is_in}
use Rattle.sweeps.specs.Accesses.{ShowsEntered, entered}
use Rattle.sweeps.proofs.accesses.enter_range.Given as goal

abbrev pub invariant-loop-i : goal.invariant-loop-i
invariant-loop-i l = record {
  entered : (a : ℕ) → a < 2 ^ 32 → bytes_in l.table a
      ≡ (if is_in l.range.start l.i a then entered l.how (bytes_in l.fn.table a) else bytes_in l.fn.table a);
  shown : ShowsEntered l.table;
}

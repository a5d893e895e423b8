use Rattle.std.proofs.Common.{◌≡◌, ℕ, ◌<◌, ◌≤◌}
use Rattle.std.specs.Option.{option_map}
use Rattle.guest_heap.specs.Entries.{block_of}
use Rattle.guest_heap.specs.Tables.{entries_of}
use Rattle.guest_heap.proofs.heap.comparing.are_same.Given as goal

abbrev pub invariant-loop : goal.invariant-loop
invariant-loop l = record {
  within : l.at ≤ 33554432;
  same : (k : ℕ) → k < l.at → option_map block_of (entries_of l.table k) ≡ option_map block_of (entries_of l.other k);
}

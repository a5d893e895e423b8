use Rattle.std.proofs.Common.{ℕ, ◌≡◌, ◌+◌, ◌-◌, if◌then◌else◌, slice_index}
use Rattle.shadow_memory.specs.Places.{is_between}
use Rattle.shadow_memory.proofs.slices.write_at.Given as goal

abbrev pub invariant-loop-i : goal.invariant-loop-i
invariant-loop-i l =
    (k : ℕ) → slice_index l.bytes k ≡ (if is_between l.at (l.at + l.i) k then slice_index l.made (k - l.at)
    else slice_index l.initial.bytes k)

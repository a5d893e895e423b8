use Rattle.std.proofs.Common.{ℕ, ◌≡◌, if◌then◌else◌, slice_index}
use Rattle.shadow_memory.specs.Places.{is_between}
use Rattle.shadow_memory.proofs.slices.set_all.Given as goal

abbrev pub invariant-loop-i : goal.invariant-loop-i
invariant-loop-i l =
    (k : ℕ) → slice_index l.bytes k ≡ (if is_between l.from l.i k then l.fn.byte else slice_index l.initial.bytes k)

use Rattle.std.proofs.Common.{◌≡◌, ℕ, ◌-◌, ◌<◌, ◌≤◌, length, get_or}
use Rattle.shadow_memory.proofs.laws.first_not.Given as goal

abbrev pub invariant-loop-at : goal.invariant-loop-at
invariant-loop-at l = record {
  within : l.at ≤ length l.bytes;
  same : (k : ℕ) → k < l.at → get_or l.bytes k 0 ≡ l.byte;
}

abbrev pub decreases-loop-at : goal.decreases-loop-at
decreases-loop-at l = length l.bytes - l.at

abbrev pub invariant-loop-i : goal.invariant-loop-i
invariant-loop-i l = record {
  start : l.at ≤ length l.bytes;
  same : (k : ℕ) → k < l.i → get_or l.bytes k 0 ≡ l.byte;
}

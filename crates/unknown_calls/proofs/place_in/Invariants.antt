use Rattle.std.proofs.Common.{length, drop, ◌-◌, ◌+◌, ◌≡◌, ◌≤◌}
use Rattle.unknown_calls.specs.UnknownCalls.{place_in}
use Rattle.unknown_calls.proofs.place_in.Given as goal

abbrev pub invariant-loop-place : goal.invariant-loop-place
invariant-loop-place l = record {
  within : l.place ≤ length l.calls;
  past : place_in l.calls l.number ≡ l.place + place_in (drop l.place l.calls) l.number;
}

abbrev pub decreases-loop-place : goal.decreases-loop-place
decreases-loop-place l = length l.calls - l.place

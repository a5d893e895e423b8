use Rattle.std.proofs.Common.{ℕ, ◌≡◌, ◌≤◌, ◌+◌, ◌-◌}
use Rattle.shadow_memory.specs.Places.{changed_from}
use Rattle.shadow_memory.specs.Codes.{code_at}
use Rattle.shadow_memory.specs.Parts.{loaded_code, taken_code}
use Rattle.shadow_memory.proofs.codes.Codes.copy.Given as goal

abbrev pub invariant-loop-place : goal.invariant-loop-place
invariant-loop-place l = record {
  start : l.from ≤ l.place;
  within : l.place ≤ l.end;
  set : (k : ℕ) → code_at l.self k ≡ changed_from (code_at l.initial.self) l.at (l.place - l.from)
      (λ i old. taken_code (loaded_code (code_at l.source (l.from + i))) old) k;
}

abbrev pub decreases-loop-place : goal.decreases-loop-place
decreases-loop-place l = l.end - l.place

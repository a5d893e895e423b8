use Rattle.std.proofs.Common.{ℕ, ◌≡◌, if◌then◌else◌}
use Rattle.shadow_memory.specs.Places.{is_between}
use Rattle.shadow_memory.specs.Codes.{code_at}
use Rattle.shadow_memory.specs.Parts.{taken_code}
use Rattle.shadow_memory.proofs.codes.Codes.take_each.Given as goal

abbrev pub invariant-loop-at : goal.invariant-loop-at
invariant-loop-at l =
    (k : ℕ) → code_at l.self k ≡ (if is_between l.from l.at k then taken_code l.made (code_at l.initial.self k)
    else code_at l.initial.self k)

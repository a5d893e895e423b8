use Rattle.std.proofs.Common.{◌*◌}
use Rattle.shadow_memory.specs.Marks.{shadow_of_mark}
use Rattle.shadow_memory.specs.Pages.{marks_mixed}
use Rattle.shadow_memory.specs.Shadows.{HoldNoWord}
use Rattle.shadow_memory.proofs.marks.Mixed.next_word.Given as goal

abbrev pub invariant-loop-word : goal.invariant-loop-word
invariant-loop-word l = HoldNoWord (λ k. shadow_of_mark (marks_mixed l.self k)) l.fn.from (4 * l.word)

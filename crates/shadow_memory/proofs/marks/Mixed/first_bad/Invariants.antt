use Rattle.shadow_memory.specs.Marks.{shadow_of_mark}
use Rattle.shadow_memory.specs.Firsts.{NonePass}
use Rattle.shadow_memory.specs.Pages.{marks_mixed}
use Rattle.shadow_memory.specs.Shadows.{is_bad}
use Rattle.shadow_memory.proofs.marks.Mixed.first_bad.Given as goal

abbrev pub invariant-loop-at : goal.invariant-loop-at
invariant-loop-at l = NonePass (λ k. is_bad l.need_defined (shadow_of_mark (marks_mixed l.self k))) l.fn.from l.at

use Rattle.std.proofs.Common.{◌≡◌, ◌++◌}
use Rattle.shadow_memory.specs.Memories.{shadows_in}
use Rattle.look_lines.specs.Texts.{undefs_text}
use Rattle.look_lines.proofs.replies.push_undefs.Given as goal

abbrev pub invariant-loop-i : goal.invariant-loop-i
invariant-loop-i l = l.out.items ≡ l.fn.out.items ++ undefs_text (shadows_in l.memory) l.range.start l.i

use Rattle.std.proofs.Common.{◌≡◌, ◌++◌}
use Rattle.shadow_memory.specs.Memories.{bytes_in}
use Rattle.look_lines.specs.Texts.{bytes_text}
use Rattle.look_lines.proofs.replies.push_bytes.Given as goal

abbrev pub invariant-loop-i : goal.invariant-loop-i
invariant-loop-i l = l.out.items ≡ l.fn.out.items ++ bytes_text (bytes_in l.memory) l.range.start l.i

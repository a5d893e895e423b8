use Rattle.std.proofs.Common.{◌≡◌, ◌++◌, take}
use Rattle.std.specs.List.{flat_map}
use Rattle.look_lines.specs.Texts.{digit_text}
use Rattle.look_lines.proofs.replies.push_digits.Given as goal

abbrev pub invariant-loop-sides : goal.invariant-loop-sides
invariant-loop-sides l = l.out.items ≡ l.fn.out.items ++ flat_map digit_text (take l.sides-index l.table)

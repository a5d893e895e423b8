use Rattle.std.proofs.Common.{◌≡◌, ◌++◌, take}
use Rattle.std.specs.List.{flat_map}
use Rattle.look_lines.specs.Lists.{happened_line}
use Rattle.look_lines.proofs.lists.push_all.Given as goal

abbrev pub invariant-loop-happened : goal.invariant-loop-happened
invariant-loop-happened l = l.out.items ≡ l.fn.out.items ++ flat_map happened_line (take l.happened-index l.found)

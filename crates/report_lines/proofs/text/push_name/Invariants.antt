use Rattle.std.proofs.Common.{◌≡◌, ◌++◌, map, take}
use Rattle.report_lines.specs.Text.{shown_byte}
use Rattle.report_lines.proofs.text.push_name.Given as goal

abbrev pub invariant-loop-b : goal.invariant-loop-b
invariant-loop-b l = l.out.items ≡ l.initial.out.items ++ map shown_byte (take l.b-index l.name)

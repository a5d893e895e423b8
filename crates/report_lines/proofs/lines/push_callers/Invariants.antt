use Rattle.std.proofs.Common.{◌≡◌, ◌++◌, take}
use Rattle.std.specs.Prelude.{codes}
use Rattle.std.specs.List.{flat_map}
use Rattle.report_lines.specs.Lines.{frame_line}
use Rattle.report_lines.proofs.lines.push_callers.Given as goal

abbrev pub invariant-loop-addr : goal.invariant-loop-addr
invariant-loop-addr l =
    l.out.items ≡ l.initial.out.items ++ flat_map (frame_line (codes "by") l.image) (take l.addr-index l.callers)

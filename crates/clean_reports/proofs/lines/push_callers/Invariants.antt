use Rattle.std.proofs.Common.{◌≡◌, ◌++◌, take}
use Rattle.std.specs.Prelude.{codes}
use Rattle.std.specs.List.{flat_map}
use Rattle.clean_reports.specs.Lines.{caller_text}
use Rattle.clean_reports.proofs.lines.push_callers.Given as goal

abbrev pub invariant-loop-addr : goal.invariant-loop-addr
invariant-loop-addr l =
    l.out.items ≡ l.initial.out.items ++ flat_map (caller_text (codes ", by ") l.image) (take l.addr-index l.callers)

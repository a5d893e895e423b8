use Rattle.std.proofs.Common.{◌≡◌, false, take}
use Rattle.std.specs.List.{list_any}
use Rattle.clean_reports.specs.Marks.{is_in_the_way}
use Rattle.clean_reports.proofs.marks.first_in_the_way.Given as goal

-- none of the marks so far is in the way
abbrev pub invariant-loop-index : goal.invariant-loop-index
invariant-loop-index l = list_any (is_in_the_way l.isa l.heap) (take l.index l.marks) ≡ false

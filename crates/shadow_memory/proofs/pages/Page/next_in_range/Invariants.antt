use Rattle.std.proofs.Common.{◌≡◌, ◌≤◌, ◌-◌, ◌%◌}
use Rattle.shadow_memory.specs.Cells.{shadow_in}
use Rattle.shadow_memory.specs.Pages.{cells_in}
use Rattle.shadow_memory.specs.Values.{HoldNoneInRange}
use Rattle.shadow_memory.proofs.pages.Page.next_in_range.Given as goal

abbrev pub invariant-loop-at : goal.invariant-loop-at
invariant-loop-at l = record {
  start : l.fn.from ≤ l.at;
  within : l.at ≤ 4096;
  aligned : l.at % 4 ≡ 0;
  none : HoldNoneInRange (λ k. (cells_in l.self k).byte) (λ k. shadow_in (cells_in l.self k)) l.low l.high l.fn.from
      l.at;
}

abbrev pub decreases-loop-at : goal.decreases-loop-at
decreases-loop-at l = 4096 - l.at

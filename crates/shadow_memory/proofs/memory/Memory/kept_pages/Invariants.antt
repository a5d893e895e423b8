use Rattle.std.proofs.Common.{◌≤◌, ◌-◌}
use Rattle.shadow_memory.proofs.memory.Memory.kept_pages.Given as goal

abbrev pub invariant-loop-page : goal.invariant-loop-page
invariant-loop-page l = (l.page ≤ 1048576) × (l.kept ≤ l.page)

abbrev pub decreases-loop-page : goal.decreases-loop-page
decreases-loop-page l = 1048576 - l.page

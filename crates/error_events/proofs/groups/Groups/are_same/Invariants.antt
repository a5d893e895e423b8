use Rattle.std.proofs.Common.{◌≡◌, ℕ, ◌<◌}
use Rattle.std.specs.List.{slice_get}
use Rattle.error_events.specs.Shown.{groups_of}
use Rattle.error_events.proofs.groups.Groups.are_same.Given as goal

abbrev pub invariant-loop-index : goal.invariant-loop-index
invariant-loop-index l = (k : ℕ) → k < l.index → slice_get (groups_of l.self) k ≡ slice_get (groups_of l.others) k

use Rattle.std.proofs.Common.{◌≡◌, false, take}
use Rattle.std.specs.List.{list_any}
use Rattle.error_events.specs.Shown.{groups_of}
use Rattle.any_verdicts.specs.Verdicts.{is_kept_use}
use Rattle.any_verdicts.proofs.uses.first_kept_use.Given as goal

-- none of the groups so far is of such a use
abbrev pub invariant-loop-index : goal.invariant-loop-index
invariant-loop-index l = list_any (λ g. is_kept_use g.kind) (take l.index (groups_of l.groups)) ≡ false

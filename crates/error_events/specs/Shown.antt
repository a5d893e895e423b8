-- The groups that `Groups` show: each key with its note and its count, in order.
use Rattle.std.specs.Prelude.{ℕ, List, [], ◌∷◌}
use Rattle.error_events.specs.CountLists.{counts_of}
use Rattle.error_events.specs.declared.event.Key.{Key}
use Rattle.error_events.specs.declared.event.Note.{Note}
use Rattle.error_events.specs.declared.event.Group.{Group}
use Rattle.error_events.specs.declared.groups.Groups.{Groups}

unfoldable pub counted : List (Key × Note) → List ℕ → List Group
counted [] counts = []
counted (e ∷ es) [] = []
counted (e ∷ es) (count ∷ counts) = record { kind = e.0.kind; trace = e.0.trace; count = count; note = e.1 }
    ∷ counted es counts

unfoldable pub groups_of : Groups → List Group
groups_of groups = counted groups.known (counts_of groups.counts)

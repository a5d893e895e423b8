-- Groups, as errors are added to them: the group of the error's kind and trace counts one more error, or a new group
-- comes last.
use Rattle.std.specs.Prelude.{◌≡◌, ◌+◌, ◌&&◌, Bool, if◌then◌else◌, List, [], ◌∷◌, ◌++◌, min}
use Rattle.error_events.specs.Groups.{same_kind, same_trace, most, grouped}
use Rattle.error_events.specs.declared.event.Event.{Event}
use Rattle.error_events.specs.declared.event.Group.{Group}

-- do two groups have one kind and one trace?
abbrev pub is_like : Group → Group → Bool
is_like h g = same_kind h.kind g.kind && same_trace h.trace g.trace

-- a group that also counts the errors of another
abbrev pub raised : Group → Group → Group
raised h g = record { kind = g.kind; trace = g.trace; count = min (g.count + h.count) most; note = g.note }

-- the groups, with the errors of another group
unfoldable pub add_group : List Group → Group → List Group
add_group [] h = h ∷ []
add_group (g ∷ gs) h = if is_like h g then raised h g ∷ gs else g ∷ add_group gs h

-- the group of one error
abbrev pub alone : Event → Group
alone e = record { kind = e.kind; trace = e.trace; count = 1; note = e.note }

-- the groups, with another error
abbrev pub add_event : List Group → Event → List Group
add_event gs e = add_group gs (alone e)

-- the groups, with these errors added
unfoldable pub add_events : List Group → List Event → List Group
add_events gs [] = gs
add_events gs (e ∷ es) = add_events (add_event gs e) es

-- `grouped` continues from the groups so far: no error has to be looked at again
abbrev pub GroupsGrow : Type 0
GroupsGrow = (es : List Event) (e : Event) → grouped (es ++ e ∷ []) ≡ add_event (grouped es) e

-- and so for several
abbrev pub GroupsGrowBy : Type 0
GroupsGrowBy = (es fs : List Event) → grouped (es ++ fs) ≡ add_events (grouped es) fs

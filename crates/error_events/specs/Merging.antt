-- How groups are regrouped: each group that is kept is added, with the first addresses of its trace, to those before
-- it.
use Rattle.std.specs.Prelude.{ℕ, Bool, if◌then◌else◌, List, [], ◌∷◌, Option, None, Some, take}
use Rattle.error_events.specs.Adding.{add_group}
use Rattle.error_events.specs.declared.event.Group.{Group}

-- a group with only the first addresses of its trace
abbrev pub cut_group : ℕ → Group → Group
cut_group callers g = record { kind = g.kind; trace = take callers g.trace; count = g.count; note = g.note }

-- these groups, with another group if there is one and it is kept
abbrev pub merged_with : ℕ → List Group → Bool → Option Group → List Group
merged_with callers done keep None = done
merged_with callers done keep (Some g) = if keep then add_group done (cut_group callers g) else done

-- these groups, with all others that are kept
unfoldable pub merged : ℕ → List Group → List Bool → List Group → List Group
merged callers done [] gs = done
merged callers done (keep ∷ keeps) [] = done
merged callers done (keep ∷ keeps) (g ∷ gs) = merged callers (merged_with callers done keep (Some g)) keeps gs

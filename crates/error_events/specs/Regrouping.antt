-- Groups by fewer addresses, of the errors that are kept (Valgrind user manual, core command-line options,
-- `--num-callers`).
use Rattle.std.specs.Prelude.{◌≡◌, ℕ, ◌&&◌, Bool, false, if◌then◌else◌, List, [], ◌∷◌, map, filter, take}
use Rattle.error_events.specs.Groups.{grouped, same_kind, same_trace}
use Rattle.error_events.specs.declared.kind.Kind.{Kind}
use Rattle.error_events.specs.declared.event.Event.{Event}
use Rattle.error_events.specs.declared.event.Group.{Group}

-- an error with only the first addresses of its trace
abbrev pub cut : ℕ → Event → Event
cut callers e = record { kind = e.kind; trace = take callers e.trace; note = e.note }

-- are the errors of a kind and a trace kept? `keeps` says for each group in turn whether its errors are
unfoldable pub is_kept : List Bool → List Group → Kind → List ℕ → Bool
is_kept [] gs kind trace = false
is_kept (keep ∷ keeps) [] kind trace = false
is_kept (keep ∷ keeps) (g ∷ gs) kind trace =
    if same_kind kind g.kind && same_trace trace g.trace then keep else is_kept keeps gs kind trace

-- the errors that are kept
unfoldable pub kept : List Bool → List Event → List Event
kept keeps es = filter (λ e. is_kept keeps (grouped es) e.kind e.trace) es

-- the groups of the errors that are kept, by kind and first addresses
unfoldable pub regrouped : ℕ → List Bool → List Event → List Group
regrouped callers keeps es = grouped (map (cut callers) (kept keeps es))

-- errors whose groups are kept by a test of kind and trace are those that pass the test
abbrev pub KeptByTest : Type 0
KeptByTest =
    (test : Kind → List ℕ → Bool) (es : List Event)
    → kept (map (λ g. test g.kind g.trace) (grouped es)) es ≡ filter (λ e. test e.kind e.trace) es

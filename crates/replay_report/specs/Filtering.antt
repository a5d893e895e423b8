-- Which errors a report shows, and how they are grouped (Valgrind user manual, section 2.5 for suppressions, and
-- `--num-callers` of section 2.6). A suppression sees the whole trace; errors are grouped by its first addresses.
use Rattle.std.specs.Prelude.{ℕ, Bool, not, List, map, filter}
use Rattle.guest_elf.specs.declared.image.Image.{Image}
use Rattle.guest_elf.specs.Images.{name_at}
use Rattle.error_events.specs.Groups.{grouped}
use Rattle.error_events.specs.Regrouping.{cut}
use Rattle.error_events.specs.declared.kind.Kind.{Kind}
use Rattle.error_events.specs.declared.event.Event.{Event}
use Rattle.error_events.specs.declared.event.Group.{Group}
use Rattle.suppressions.specs.Rules.{Rule, is_suppressed}
use Rattle.suppressions.specs.declared.target.Target.TheVariants.{Error}

-- the names of a trace's addresses
abbrev pub names_of : Image → List ℕ → List (List ℕ)
names_of image trace = map (name_at image) trace

-- is an error of a kind at a trace suppressed?
abbrev pub hides : List Rule → Image → Kind → List ℕ → Bool
hides rules image kind trace = is_suppressed rules (Error kind) (names_of image trace)

-- the groups of the errors that pass a test, by the first addresses of their traces
abbrev pub groups_by : ℕ → (Kind → List ℕ → Bool) → List Event → List Group
groups_by callers test es = grouped (map (cut callers) (filter (λ e. test e.kind e.trace) es))

-- the groups that are shown, and those that are only counted
unfoldable pub shown_groups : List Rule → Image → ℕ → List Event → List Group
shown_groups rules image callers es = groups_by callers (λ kind trace. not (hides rules image kind trace)) es

unfoldable pub hidden_groups : List Rule → Image → ℕ → List Event → List Group
hidden_groups rules image callers es = groups_by callers (hides rules image) es

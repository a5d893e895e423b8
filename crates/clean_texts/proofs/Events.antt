-- Where a report shows no group of errors, and hides none, there are no errors.
use Rattle.std.proofs.Common.{◌≡◌, ℕ, not, List, [], ◌∷◌, map, filter, length, arith, refl, ap, ◌∙◌, sym}
use Rattle.std.proofs.lemmas.List.{nil_from_length}
use Rattle.std.proofs.lemmas.List.Filters.{length-filter_both}
use Rattle.guest_elf.specs.declared.image.Image.{Image}
use Rattle.error_events.specs.Groups.{firsts_after, grouped}
use Rattle.error_events.specs.Regrouping.{cut}
use Rattle.error_events.specs.declared.event.Event.{Event}
use Rattle.suppressions.specs.Rules.{Rule}
use Rattle.replay_report.specs.Filtering.{hidden_groups, hides, shown_groups}

-- errors have a group
none-grouped : (f : Event → Event) (es : List Event) → length (grouped (map f es)) ≡ 0 → length es ≡ 0
unfolding grouped firsts_after
none-grouped f [] e = refl
none-grouped f (x ∷ xs) e = absurd (omega (arith, e))

pub no-events : (rules : List Rule) (image : Image) (callers : ℕ) (es : List Event)
    → length (shown_groups rules image callers es) ≡ 0 → length (hidden_groups rules image callers es) ≡ 0 → es ≡ []
unfolding shown_groups hidden_groups
no-events rules image callers es shown hidden =
    let hidden_one = λ (e : Event). hides rules image e.kind e.trace in
    let shown_one = λ (e : Event). not (hides rules image e.kind e.trace) in
    let one = none-grouped (cut callers) (filter shown_one es) shown in
    let two = none-grouped (cut callers) (filter hidden_one es) hidden in
    let all = length-filter_both hidden_one shown_one (λ e. refl) es in
    nil_from_length es (omega (arith, one, two, all))

all-shown : (image : Image) (es : List Event) → filter (λ e. not (hides [] image e.kind e.trace)) es ≡ es
all-shown image [] = refl
all-shown image (e ∷ es) = ap (λ rest. e ∷ rest) (all-shown image es)

-- without suppressions it is enough that none is shown
pub none-shown : (image : Image) (callers : ℕ) (es : List Event) → shown_groups [] image callers es ≡ [] → es ≡ []
unfolding shown_groups
none-shown image callers es none =
    let one = none-grouped (cut callers) (filter (λ e. not (hides [] image e.kind e.trace)) es) (ap length none) in
    nil_from_length es (sym (ap length (all-shown image es)) ∙ one)

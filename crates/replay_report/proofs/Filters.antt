-- The groups that are shown and those that are hidden, by the groups of all errors.
use Rattle.std.proofs.Common.{◌≡◌, ℕ, zero, suc, ◌+◌, Bool, not, List, [], ◌∷◌, ◌++◌, map, take, length, ◌<◌, arith}
use Rattle.std.proofs.Common.{sym, Some, add-one, refl, ap, ◌∙◌}
use Rattle.std.specs.Prelude.{slice_get}
use Rattle.guest_elf.specs.declared.image.Image.{Image}
use Rattle.error_events.specs.Groups.{grouped}
use Rattle.error_events.specs.Regrouping.{cut, kept, regrouped, KeptByTest}
use Rattle.error_events.specs.declared.event.Event.{Event}
use Rattle.error_events.specs.declared.event.Group.{Group}
use Rattle.suppressions.specs.Rules.{Rule}
use Rattle.replay_report.specs.Filtering.{hides, shown_groups, hidden_groups}

map-not : {X : Type 0} (f : X → Bool) (xs : List X) → map not (map f xs) ≡ map (λ x. not (f x)) xs
map-not f [] = refl
map-not f (x ∷ xs) = ap (λ bs. not (f x) ∷ bs) (map-not f xs)

-- a test of each group, and of each error
abbrev test : List Rule → Image → Group → Bool
test rules image g = hides rules image g.kind g.trace

pub hidden-are : KeptByTest → (rules : List Rule) (image : Image) (callers : ℕ) (gs groups : List Group)
    (keep : List Bool) (es : List Event)
    → gs ≡ grouped es → keep ≡ map (λ g. hides rules image g.kind g.trace) gs → groups ≡ regrouped callers keep es
    → groups ≡ hidden_groups rules image callers es
unfolding regrouped hidden_groups
hidden-are law rules image callers gs groups keep es same tests found =
    found
    ∙ ap (λ ks. grouped (map (cut callers) (kept ks es))) (tests ∙ ap (map (test rules image)) same)
    ∙ ap (λ fs. grouped (map (cut callers) fs)) (law (hides rules image) es)

pub shown-are : KeptByTest → (rules : List Rule) (image : Image) (callers : ℕ) (gs groups : List Group)
    (hidden : List Bool) (es : List Event)
    → gs ≡ grouped es → hidden ≡ map (λ g. hides rules image g.kind g.trace) gs
    → groups ≡ regrouped callers (map not hidden) es
    → groups ≡ shown_groups rules image callers es
unfolding regrouped shown_groups
shown-are law rules image callers gs groups hidden es same tests found =
    found
    ∙ ap (λ ks. grouped (map (cut callers) (kept ks es))) (ap (map not) (tests ∙ ap (map (test rules image)) same)
    ∙ map-not (test rules image) (grouped es))
    ∙ ap (λ fs. grouped (map (cut callers) fs)) (law (λ kind trace. not (hides rules image kind trace)) es)

-- another group is tested
pub tested-more : {X : Type 0} (f : Group → X) (gs : List Group) (i : ℕ) (x : X) → i < length gs
    → ((g : Group) → slice_get gs i ≡ Some g → x ≡ f g)
    → map f (take (i + 1) gs) ≡ map f (take i gs) ++ x ∷ []
tested-more f gs i x within is = rw add-one (more gs i within is)
  where
    more : (gs : List Group) (i : ℕ) → i < length gs → ((g : Group) → slice_get gs i ≡ Some g → x ≡ f g)
        → map f (take (suc i) gs) ≡ map f (take i gs) ++ x ∷ []
    more [] i within is = absurd (omega arith)
    more (d ∷ ds) zero within is = ap (λ y. y ∷ []) (sym (is d refl))
    more (d ∷ ds) (suc i) within is = ap (λ xs. f d ∷ xs) (more ds i (omega arith) is)

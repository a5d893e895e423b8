-- The changes of the parts of a sweep, one part after another.
use Rattle.std.proofs.Common.{◌≡◌, ℕ, zero, suc, ◌+◌, ◌-◌, List, [], ◌∷◌, ◌++◌, refl, ap, ap₂, sym, ◌∙◌, append-nil}
use Rattle.std.specs.List.{flat_map}
use Rattle.std.proofs.lemmas.List.Concat.{flat_map-append}
use Rattle.scenario.specs.Scenario.{Scenario}
use Rattle.sweep_plans.specs.Laws.{PartsMakeTheWhole, numbers_from, places_of}
use Rattle.sweep_plans.specs.Planned.{part_from, part_to}
use Rattle.sweep_plans.specs.Numbers.{below}
use Rattle.sweep_plans.specs.Plans.{place_count}
use Rattle.sweep_plans.specs.declared.change.Change.{Change}
use Rattle.sweep_plans.specs.declared.plan.Plan.{Plan}
use Rattle.sweep_plans.specs.declared.request.Part.{Part}
use Rattle.sweeps.specs.Laws.{PartsHaveAllChanges, changes_in}
use Rattle.sweeps.specs.Standing.{changes_at as changes_of, changes_from}

module _ (sc : Scenario) (plan : Plan) where
  -- the changes at a place
  abbrev changes_at : ℕ → List Change
  changes_at place = changes_of sc plan place

  at-numbers : (from n : ℕ) → changes_from sc plan from n ≡ flat_map changes_at (numbers_from from n)
  unfolding changes_from numbers_from
  at-numbers from zero = refl
  at-numbers from (suc n) =
      ap (λ xs. xs ++ changes_at (from + n)) (at-numbers from n)
      ∙ ap (λ xs. flat_map changes_at (numbers_from from n) ++ xs) (sym (append-nil (changes_at (from + n))))
      ∙ sym (flat_map-append changes_at (numbers_from from n) ((from + n) ∷ []))

  -- the changes at the places of lists, one list after another
  at-all : (places : ℕ → List ℕ) (xs : List ℕ)
      → flat_map (λ x. flat_map changes_at (places x)) xs ≡ flat_map changes_at (flat_map places xs)
  at-all places [] = refl
  at-all places (x ∷ xs) =
      ap (λ rest. flat_map changes_at (places x) ++ rest) (at-all places xs)
      ∙ sym (flat_map-append changes_at (places x) (flat_map places xs))

  in-parts : (parts : ℕ) (xs : List ℕ)
      → flat_map (λ before. changes_in sc plan (record { index = before + 1; count = parts })) xs
      ≡ flat_map (λ before. flat_map changes_at (places_of plan (record { index = before + 1; count = parts }))) xs
  in-parts parts [] = refl
  in-parts parts (x ∷ xs) =
      let part = let p : Part = record { index = x + 1; count = parts } in p in
      ap₂ (λ here rest. here ++ rest) (at-numbers (part_from plan part) (part_to plan part - part_from plan part))
      (in-parts parts xs)

pub parts-have-all : PartsMakeTheWhole → PartsHaveAllChanges
parts-have-all law sc plan parts some =
    in-parts sc plan parts (below parts)
    ∙ at-all sc plan (λ before. places_of plan (record { index = before + 1; count = parts })) (below parts)
    ∙ ap (flat_map (changes_at sc plan)) (law plan parts some)
    ∙ sym (at-numbers sc plan 0 (place_count plan))

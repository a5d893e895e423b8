-- The parts of a sweep, and the whole sweep.
use Rattle.std.specs.Prelude.{◌≡◌, ℕ, zero, suc, ◌+◌, ◌-◌, ◌≤◌, List, [], ◌∷◌, ◌++◌}
use Rattle.std.specs.List.{flat_map}
use Rattle.sweep_plans.specs.Planned.{part_from, part_to}
use Rattle.sweep_plans.specs.Numbers.{below}
use Rattle.sweep_plans.specs.Plans.{place_count}
use Rattle.sweep_plans.specs.declared.plan.Plan.{Plan}
use Rattle.sweep_plans.specs.declared.request.Part.{Part}

-- consecutive numbers from one on
unfoldable pub numbers_from : ℕ → ℕ → List ℕ
numbers_from first zero = []
numbers_from first (suc n) = numbers_from first n ++ (first + n) ∷ []

-- the numbers of the places of a part, in order
abbrev pub places_of : Plan → Part → List ℕ
places_of plan part = numbers_from (part_from plan part) (part_to plan part - part_from plan part)

-- the places of the parts 1 to N, one part after another, are all places in order, each once
abbrev pub PartsMakeTheWhole : Type 0
PartsMakeTheWhole = (plan : Plan) (parts : ℕ) → 1 ≤ parts
    → flat_map (λ before. places_of plan (record { index = before + 1; count = parts })) (below parts)
    ≡ numbers_from 0 (place_count plan)

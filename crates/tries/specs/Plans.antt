-- The lines that try other values of bytes, one at a time.
use Rattle.std.specs.Prelude.{ℕ, ◌==◌, ◌++◌, nat_lt, if◌then◌else◌, List, [], ◌∷◌, codes, length, map, slice_index_or}
use Rattle.std.specs.Prelude.{Option, Some, None, Result, Ok, Err}
use Rattle.std.specs.Fmt.{decimal}
use Rattle.std.specs.List.{flat_map}
use Rattle.std.specs.Str.{bytes_eq}
use Rattle.commands.specs.Commands.{fields, number}
use Rattle.commands.specs.declared.edit.Edit.{Edit}
use Rattle.commands.specs.declared.edit.Edit.TheVariants.{Overwrite}
use Rattle.commands.specs.declared.fault.Fault.{Fault}
use Rattle.commands.specs.declared.fault.Fault.TheVariants.{BadCommand, OutsideInput}
use Rattle.report_lines.specs.Text.{byte_text, newline}
use Rattle.sweep_plans.specs.Laws.{numbers_from}
use Rattle.sweep_plans.specs.Plans.{byte_values, count}
use Rattle.sweep_plans.specs.declared.plan.ByteValues.{ByteValues}
use Rattle.sweep_plans.specs.declared.plan.ByteValues.TheVariants.{All, Flips, Edges}
use Rattle.sweep_plans.specs.declared.plan.Places.{Places}
use Rattle.texts.specs.Parts.{parts}
use Rattle.tries.specs.declared.plans.Attempt.{Attempt}
use Rattle.tries.specs.declared.plans.BytePlan.{BytePlan}

-- the values that a word names
unfoldable pub values_of : List ℕ → Option ByteValues
values_of word =
    if bytes_eq word (codes "all") then Some All
    else if bytes_eq word (codes "flips") then Some Flips
    else if bytes_eq word (codes "edges") then Some Edges
    else None

-- `A..B`: the places from A up to B, which isn't one of them and is above A
abbrev pub places_between : Option ℕ → Option ℕ → Option Places
places_between (Some first) (Some end) = if nat_lt first end then Some (record { first = first; end = end }) else None
places_between _ _ = None

unfoldable pub places_in : List (List ℕ) → Option Places
places_in (first ∷ gap ∷ end ∷ []) = if length gap == 0 then places_between (number first) (number end) else None
places_in _ = None

-- the plan of these places and values
abbrev pub planned : Option Places → Option ByteValues → Option BytePlan
planned (Some places) (Some values) = Some (record { places = places; values = values })
planned _ _ = None

-- `tries A..B VALUES`
unfoldable pub plan_in : List (List ℕ) → Option BytePlan
plan_in (word ∷ places ∷ values ∷ []) = planned (places_in (parts 46 places)) (values_of values)
plan_in _ = None

-- for an input of this length: places beyond it are rejected
abbrev pub within : ℕ → Option BytePlan → Result BytePlan Fault
within len None = Err BadCommand
within len (Some plan) = if nat_lt len plan.places.end then Err OutsideInput else Ok plan

-- the plan that a line asks for, or why it is rejected
abbrev pub plan_asked : ℕ → List ℕ → Result BytePlan Fault
plan_asked len line = within len (plan_in (fields line))

-- the edit that gives a byte another value
abbrev pub edit_of : Attempt → Edit
edit_of attempt = Overwrite attempt.offset (attempt.value ∷ [])

-- the line that tries it: `try P HH`
unfoldable pub try_line : Attempt → List ℕ
try_line attempt = codes "try " ++ decimal attempt.offset ++ codes " " ++ byte_text attempt.value ++ newline

abbrev pub attempt_at : ℕ → ℕ → Attempt
attempt_at offset value = record { offset = offset; value = value }

-- a byte that has this value, with each of the wanted ones below a number in its place
unfoldable pub attempts_below : ByteValues → ℕ → ℕ → ℕ → List Attempt
attempts_below values offset old n = map (attempt_at offset) (byte_values values old n)

-- the byte at an offset of an input, with each of the wanted values
abbrev pub attempts_at : ByteValues → List ℕ → ℕ → List Attempt
attempts_at values input offset = attempts_below values offset (slice_index_or input offset 0) 256

-- what a plan tries, in order
unfoldable pub attempts_of : BytePlan → List ℕ → List Attempt
attempts_of plan input =
    flat_map (attempts_at plan.values input) (numbers_from plan.places.first (count plan.places))

-- The lines of a table on what its runs have executed.
use Rattle.std.specs.Prelude.{◌≡◌, ℕ, zero, suc, ◌+◌, ◌*◌, ◌/◌, ◌%◌, ◌^◌, ◌==◌, ◌&&◌, Bool, not, if◌then◌else◌, List}
use Rattle.std.specs.Prelude.{[]}
use Rattle.std.specs.Prelude.{◌++◌, codes, drop, length, take}
use Rattle.std.specs.List.{flat_map, list_any}
use Rattle.checkpoints.specs.Sides.{span}
use Rattle.checkpoints.specs.declared.sides.Sides.{Sides}
use Rattle.guest_elf.specs.declared.image.Image.{Image}
use Rattle.look_lines.specs.Ranges.{range_of}
use Rattle.look_lines.specs.Texts.{digit_text}
use Rattle.report_lines.specs.Text.{address_text, newline}
use Rattle.run_values.specs.declared.span.Span.{Span}
use Rattle.scenario.specs.Scenario.{Scenario}
use Rattle.sweep_plans.specs.Plans.{has_only_bytes}
use Rattle.sweep_plans.specs.declared.change.Change.{Change}
use Rattle.sweep_plans.specs.declared.plan.Plan.{Plan}
use Rattle.sweeps.specs.Covered.{AreCovered, apart_in}

-- the range of a table: that in which a program begins, if `--sides` was given, which goes with bytes only
abbrev pub range_for : Bool → Plan → Image → Span
range_for with_sides plan image = if with_sides && has_only_bytes plan then range_of image else span 0 0

-- is there another digit than 0?
abbrev pub some_reached : List ℕ → Bool
some_reached digits = list_any (λ digit. not (digit == 48)) digits

-- the line of the places from an address on, if one of them was reached
unfoldable pub sides_line : ℕ → List ℕ → List ℕ
sides_line addr digits =
    if some_reached digits then codes "sides " ++ address_text addr ++ codes " " ++ digits ++ newline else []

-- the digits of a line by its number: 64 of them, the last line perhaps fewer
abbrev pub digits_at : List ℕ → ℕ → List ℕ
digits_at digits n = take 64 (drop (64 * n) digits)

-- the address of its first place
abbrev pub address_at : ℕ → ℕ → ℕ → ℕ
address_at start apart n = (start + 64 * apart * n) % 2 ^ 32

-- the first lines, of places from an address on that are some bytes apart
unfoldable pub sides_below : ℕ → ℕ → List ℕ → ℕ → List ℕ
sides_below start apart digits zero = []
sides_below start apart digits (suc n) =
    sides_below start apart digits n ++ sides_line (address_at start apart n) (digits_at digits n)

-- and all of them
abbrev pub sides_lines : ℕ → ℕ → List ℕ → List ℕ
sides_lines start apart digits = sides_below start apart digits ((length digits + 63) / 64)

-- these are the lines on what the unedited run of a scenario and its runs with some changes have executed of a range
abbrev pub TellsSides : Scenario → List Change → Span → List ℕ → Type 0
TellsSides sc changes range lines =
    (table : List Sides) × AreCovered sc changes range table
    × (lines ≡ sides_lines range.start (apart_in sc) (flat_map digit_text table))

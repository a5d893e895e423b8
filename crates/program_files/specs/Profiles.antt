-- What a program's file is read for, by the texts of a command line.
use Rattle.std.specs.Prelude.{ℕ, ◌≡◌, ◌==◌, ◌&&◌, if◌then◌else◌, List, [], ◌∷◌, length, Option, Some, None, IsSome}
use Rattle.std.specs.Prelude.{codes, nat_le, unwrap_or}
use Rattle.std.specs.Str.{bytes_eq}
use denote.Ref.{Bor}
use Rattle.command_line.specs.Isas.{isa_named}
use Rattle.command_line.specs.declared.order.ProfileArgs.{ProfileArgs}
use Rattle.commands.specs.Commands.{number}
use Rattle.exit_status.specs.declared.ends.End.{End}
use Rattle.exit_status.specs.declared.ends.End.TheVariants.{BadIsa, BadHeapRegion, BadMostMoved, BadMostOutput}
use Rattle.exit_status.specs.declared.ends.End.TheVariants.{BadStackRegion, RegionsOverlap}
use Rattle.guest_elf.specs.Profiles.{usual_limits}
use Rattle.guest_elf.specs.declared.profile.Profile.{Profile}
use Rattle.memory_map.specs.Regions.{first_fault}
use Rattle.memory_map.specs.declared.regions.RegionsFault.{RegionsFault}
use Rattle.memory_map.specs.declared.regions.RegionsFault.TheVariants.{Heap, Stack, Meet}
use Rattle.memory_map.specs.declared.regions.StackRegion.{StackRegion}
use Rattle.texts.specs.Parts.{parts}

-- where a text has the heap's region begin; at 0, where none begins, if the text is no number
abbrev pub heap_in : List ℕ → ℕ
heap_in text = unwrap_or (number text) 0

-- a region without an address, which no stack has
abbrev pub no_stack : StackRegion
no_stack = record { begin = 0; end = 0 }

abbrev pub between : Option ℕ → Option ℕ → StackRegion
between (Some begin) (Some end) = record { begin = begin; end = end }
between _ _ = no_stack

-- `A..B`, as parts between dots
unfoldable pub bounds_in : List (List ℕ) → StackRegion
bounds_in (begin ∷ gap ∷ end ∷ []) = if length gap == 0 then between (number begin) (number end) else no_stack
bounds_in _ = no_stack

-- where a text has the stack's region lie
abbrev pub stack_in : List ℕ → StackRegion
stack_in text = bounds_in (parts 46 text)

-- what is wrong with the regions of texts, if anything is
abbrev pub fault_in : ProfileArgs → Option RegionsFault
fault_in words =
    first_fault (heap_in words.heap.now) (stack_in words.stack.now).begin (stack_in words.stack.now).end

-- the most bytes that one call moves on Linux (read(2), write(2))
abbrev pub greatest_moved : ℕ
greatest_moved = 0x7ffff000

-- a number of bytes that one call may move
abbrev pub moved_number : Option ℕ → Option ℕ
moved_number None = None
moved_number (Some n) = if nat_le 1 n && nat_le n greatest_moved then Some n else None

-- the most bytes that one call moves, by a text; the usual number without one
abbrev pub moved_in : Option (Bor (List ℕ)) → Option ℕ
moved_in None = Some usual_limits.most_moved
moved_in (Some text) = moved_number (number text.now)

-- the greatest number of 64 bits, to which no output comes
abbrev pub no_limit : ℕ
no_limit = 18446744073709551615

-- the most bytes of output, by a text; the usual number without one
abbrev pub output_in : Option (Bor (List ℕ)) → Option ℕ
output_in None = Some usual_limits.most_output
output_in (Some text) = if bytes_eq text.now (codes "none") then Some no_limit else number text.now

-- the profile of texts
pub record IsProfileNamed (words : ProfileArgs) (profile : Profile) : Type 0 where
  pub isa : isa_named words.isa.now ≡ Some profile.isa
  pub heap : profile.regions.heap ≡ heap_in words.heap.now
  pub stack : profile.regions.stack ≡ stack_in words.stack.now
  pub moved : moved_in words.most_moved ≡ Some profile.limits.most_moved
  pub output : output_in words.most_output ≡ Some profile.limits.most_output

-- a text is the one that an option was given
abbrev pub IsText : Bor (List ℕ) → Option (Bor (List ℕ)) → Type 0
IsText text given = given ≡ Some text

-- texts have none: no instruction set has that name, or else the regions have a fault, of which the first is told, or
-- else a number of bytes is none
abbrev pub NoProfile : ProfileArgs → End → Type 0
NoProfile words (BadIsa given) = (given.now ≡ words.isa.now) × (isa_named words.isa.now ≡ None)
NoProfile words (BadHeapRegion given) =
    (given.now ≡ words.heap.now) × IsSome (isa_named words.isa.now) × (fault_in words ≡ Some Heap)
NoProfile words (BadStackRegion given) =
    (given.now ≡ words.stack.now) × IsSome (isa_named words.isa.now) × (fault_in words ≡ Some Stack)
NoProfile words (RegionsOverlap heap stack) =
    (heap.now ≡ words.heap.now) × (stack.now ≡ words.stack.now) × IsSome (isa_named words.isa.now)
    × (fault_in words ≡ Some Meet)
NoProfile words (BadMostMoved given) =
    IsText given words.most_moved × IsSome (isa_named words.isa.now) × (fault_in words ≡ None)
    × (moved_in words.most_moved ≡ None)
NoProfile words (BadMostOutput given) =
    IsText given words.most_output × IsSome (isa_named words.isa.now) × (fault_in words ≡ None)
    × IsSome (moved_in words.most_moved) × (output_in words.most_output ≡ None)
NoProfile words end = ⊥

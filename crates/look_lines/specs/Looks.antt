-- What a look asks for, and the line that asks for it.
use Rattle.std.specs.Prelude.{ℕ, ◌+◌, ◌^◌, ◌&&◌, ◌||◌, nat_le, nat_lt, Bool, if◌then◌else◌, List, [], ◌∷◌}
use Rattle.std.specs.Prelude.{Option, Some, None, option_map, Result, Ok, Err, codes}
use Rattle.std.specs.Str.{bytes_eq}
use Rattle.checkpoints.specs.declared.searches.Sought.{Sought}
use Rattle.checkpoints.specs.declared.searches.Watch.{Watch}
use Rattle.checkpoints.specs.declared.searches.Watch.TheVariants.{Run, Read, Write, Shadow, Error}
use Rattle.run_values.specs.declared.span.Span.{Span}
use Rattle.commands.specs.Commands.{fields, number}
use Rattle.commands.specs.declared.fault.Fault.{Fault}
use Rattle.commands.specs.declared.fault.Fault.TheVariants.{BadCommand, BadRange, StepLimit}
use Rattle.look_lines.specs.declared.look.Look.{Look}
use Rattle.look_lines.specs.declared.look.Search.{Search}
use Rattle.look_lines.specs.declared.look.Stretch.{Stretch}
use Rattle.look_lines.specs.declared.look.Look.TheVariants.{Registers, Controls, Memory, Output, Sides, Input, Next}
use Rattle.look_lines.specs.declared.look.Look.TheVariants.{Last, Certify, Stack, Blocks, Calls}

-- the greatest number of bytes that a look at memory, at the output or at sides may show, and that a search for a
-- change of what is known of them may watch
abbrev pub longest_view : ℕ
longest_view = 4096

-- `ADDR LEN`, or `FROM LEN`
abbrev pub span_with : Option ℕ → Option ℕ → Option Span
span_with (Some addr) (Some len) = Some (record { start = addr; len = len })
span_with (Some addr) None = None
span_with None len = None

-- what a step is watched for
unfoldable pub watch_of : List ℕ → Option Watch
watch_of word =
    if bytes_eq word (codes "run") then Some Run
    else if bytes_eq word (codes "read") then Some Read
    else if bytes_eq word (codes "write") then Some Write
    else if bytes_eq word (codes "shadow") then Some Shadow
    else if bytes_eq word (codes "error") then Some Error
    else None

-- `KIND ADDR LEN`
abbrev pub sought_with : Option Watch → Option Span → Option Sought
sought_with (Some watch) (Some range) = Some (record { watch = watch; range = range })
sought_with (Some watch) None = None
sought_with None range = None

-- a look that has no fields: `registers`, `controls`, `input`, `certify`, `stack`
unfoldable pub bare : Look → List (List ℕ) → Option Look
bare look [] = Some look
bare look (field ∷ more) = None

-- the range of `memory ADDR LEN`, of `output FROM LEN` and of `sides ADDR LEN`
unfoldable pub range_of : List (List ℕ) → Option Span
range_of (start ∷ len ∷ []) = span_with (number start) (number len)
range_of _ = None

-- the address of `blocks ADDR`
unfoldable pub number_in : List (List ℕ) → Option ℕ
number_in (field ∷ []) = number field
number_in _ = None

-- the steps of `calls FROM END`
abbrev pub stretch_with : Option ℕ → Option ℕ → Option Stretch
stretch_with (Some from) (Some end) = Some (record { from = from; end = end })
stretch_with (Some from) None = None
stretch_with None end = None

unfoldable pub stretch_of : List (List ℕ) → Option Stretch
stretch_of (from ∷ end ∷ []) = stretch_with (number from) (number end)
stretch_of _ = None

-- `KIND ADDR LEN STEP`
abbrev pub search_with : Option Sought → Option ℕ → Option Search
search_with (Some sought) (Some bound) = Some (record { sought = sought; bound = bound })
search_with (Some sought) None = None
search_with None bound = None

unfoldable pub search_of : List (List ℕ) → Option Search
search_of (kind ∷ addr ∷ len ∷ bound ∷ []) =
    search_with (sought_with (watch_of kind) (span_with (number addr) (number len))) (number bound)
search_of _ = None

-- the look of the word after `look`, and the fields after that
unfoldable pub look_of : List ℕ → List (List ℕ) → Option Look
look_of word more =
    if bytes_eq word (codes "registers") then bare Registers more
    else if bytes_eq word (codes "controls") then bare Controls more
    else if bytes_eq word (codes "memory") then option_map (λ range. Memory range) (range_of more)
    else if bytes_eq word (codes "output") then option_map (λ range. Output range) (range_of more)
    else if bytes_eq word (codes "sides") then option_map (λ range. Sides range) (range_of more)
    else if bytes_eq word (codes "input") then bare Input more
    else if bytes_eq word (codes "next") then option_map (λ search. Next search) (search_of more)
    else if bytes_eq word (codes "last") then option_map (λ search. Last search) (search_of more)
    else if bytes_eq word (codes "certify") then bare Certify more
    else if bytes_eq word (codes "stack") then bare Stack more
    else if bytes_eq word (codes "blocks") then option_map (λ from. Blocks from) (number_in more)
    else if bytes_eq word (codes "calls") then option_map (λ stretch. Calls stretch) (stretch_of more)
    else None

-- the look of a line's fields, of which the first is `look`
abbrev pub look_among : List (List ℕ) → Option Look
look_among (first ∷ word ∷ more) = look_of word more
look_among _ = None

-- does a range have at least one byte, and end at 2^32 or below?
abbrev pub is_range : Span → Bool
is_range range = nat_lt 0 range.len && nat_le (range.start + range.len) (2 ^ 32)

-- and is it no longer than one that may be shown?
abbrev pub is_view : Span → Bool
is_view range = is_range range && nat_le range.len longest_view

-- may a search watch a range for this? What is known of its bytes is compared at each step, and no more of them than
-- may be shown
abbrev pub may_watch : Watch → Span → Bool
may_watch Run range = is_range range
may_watch Read range = is_range range
may_watch Write range = is_range range
may_watch Shadow range = is_view range
may_watch Error range = is_range range

-- why a search is rejected, if it is, where a step may be this one at most
abbrev pub search_refusal : ℕ → Search → Option Fault
search_refusal limit search =
    if nat_lt limit search.bound then Some StepLimit
    else if may_watch search.sought.watch search.sought.range then None
    else Some BadRange

-- why steps are rejected, if they are
abbrev pub stretch_refusal : ℕ → Stretch → Option Fault
stretch_refusal limit stretch =
    if nat_lt limit stretch.from || nat_lt limit stretch.end then Some StepLimit
    else None

-- why a look is rejected, if it is
abbrev pub look_refusal : ℕ → Look → Option Fault
look_refusal limit Registers = None
look_refusal limit Controls = None
look_refusal limit (Memory range) = if is_view range then None else Some BadRange
look_refusal limit (Output range) = if is_view range then None else Some BadRange
look_refusal limit (Sides range) = if is_view range then None else Some BadRange
look_refusal limit Input = None
look_refusal limit (Next search) = search_refusal limit search
look_refusal limit (Last search) = search_refusal limit search
look_refusal limit Certify = None
look_refusal limit Stack = None
look_refusal limit (Blocks from) = None
look_refusal limit (Calls stretch) = stretch_refusal limit stretch

abbrev pub unless : Option Fault → Look → Result Look Fault
unless None look = Ok look
unless (Some fault) look = Err fault

abbrev pub taken : ℕ → Option Look → Result Look Fault
taken limit None = Err BadCommand
taken limit (Some look) = unless (look_refusal limit look) look

-- the look that a line asks for, or why it is rejected
unfoldable pub asked : ℕ → List ℕ → Result Look Fault
asked limit line = taken limit (look_among (fields line))

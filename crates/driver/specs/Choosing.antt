-- The bytes that may be any, as the arguments of `certify` name them.
use Rattle.std.specs.Prelude.{◌≡◌, ◌⊎◌, ◌+◌, ◌-◌, ◌&&◌, ℕ, Bool, true, List, [], ◌∷◌, Option, Some, None}
use Rattle.std.specs.Prelude.{if◌then◌else◌, is_some}
use Rattle.std.specs.Prelude.{nat_le, nat_lt}
use Rattle.command_line.specs.Orders.{text_of}
use Rattle.command_line.specs.declared.order.CertifyArgs.{CertifyArgs}
use Rattle.commands.specs.Commands.{number}
use Rattle.texts.specs.Parts.{parts}
use Rattle.exit_status.specs.declared.ends.End.{End}
use Rattle.exit_status.specs.declared.ends.End.TheVariants.{BytesRefused, Lone}
use Rattle.exit_status.specs.declared.ends.LoneOption.TheVariants.{Reveal as LoneReveal}
use Rattle.exit_status.specs.declared.ends.SweepOption.{SweepOption}
use Rattle.exit_status.specs.declared.ends.SweepOption.TheVariants.{Any, AnyMemory, Reveal as RevealOption}
use Rattle.run_values.specs.declared.span.Span.{Span}
use Rattle.scenario.specs.Limits.{furthest_step}
use Rattle.sweep_plans.specs.Planned.{bytes_by}
use Rattle.sweep_plans.specs.Requests.{NamesText, closed_range_of, range_of}
use Rattle.sweep_plans.specs.declared.plan.Places.{Places}
use Rattle.sweep_plans.specs.declared.request.Range.{Range}
use Rattle.any_verdicts.specs.declared.any_bytes.Reveal.{Reveal}
use Rattle.any_verdicts.specs.declared.chosen.Chosen.{Chosen}

-- places as a range
abbrev pub span_of : Places → Span
span_of places = record { start = places.first; len = places.end - places.first }

-- the range of an input of this length that a text names, if there is one
abbrev pub NamesInput : Option (List ℕ) → ℕ → Option Span → Type 0
NamesInput None len span = span ≡ None
NamesInput (Some text) len span =
    (range : Range) × (places : Places) × (range_of text ≡ Some range) × (bytes_by (Some range) true len ≡ Some places)
    × (span ≡ Some (span_of places))

-- a text that names none: it is no range, or not one of the input
abbrev pub NamesNoInput : Option (List ℕ) → ℕ → End → Type 0
NamesNoInput None len end = ⊥
NamesNoInput (Some text) len end =
    ((range_of text ≡ None) × NamesText Any text end)
    ⊎ ((range : Range) × (range_of text ≡ Some range) × (bytes_by (Some range) true len ≡ None) × (end ≡ BytesRefused))

-- what a text names by a reading, if there is a text
abbrev pub Names : {X : Type 0} → (List ℕ → Option X) → Option (List ℕ) → Option X → Type 0
Names reading None named = named ≡ None
Names reading (Some text) named = (reading text ≡ named) × (is_some named ≡ true)

-- a text that names nothing is how the program ends
abbrev pub NamesNone : {X : Type 0} → SweepOption → (List ℕ → Option X) → Option (List ℕ) → End → Type 0
NamesNone option reading None end = ⊥
NamesNone option reading (Some text) end = (reading text ≡ None) × NamesText option text end

-- the addresses from one up to, but not including, a later one
abbrev pub until : ℕ → Option ℕ → Option Span
until first None = None
until first (Some last) = if nat_lt first last then Some (record { start = first; len = last - first }) else None

abbrev pub memory_by : Option Range → Option Span
memory_by None = None
memory_by (Some range) = until range.first range.last

abbrev pub memory_of : List ℕ → Option Span
memory_of text = memory_by (closed_range_of text)

-- a step that a run may have, and some bytes of memory
unfoldable pub can_reveal : ℕ → ℕ → ℕ → Bool
can_reveal step addr len = nat_le step furthest_step && (nat_lt 0 len && nat_le (addr + len) 4294967296)

-- a step, an address and a number of bytes
abbrev pub reveal_by : Option ℕ → Option ℕ → Option ℕ → Option Reveal
reveal_by (Some step) (Some addr) (Some len) =
    if can_reveal step addr len then Some (record { step = step; span = record { start = addr; len = len } }) else None
reveal_by _ _ _ = None

unfoldable pub reveal_in : List (List ℕ) → Option Reveal
reveal_in (step ∷ addr ∷ len ∷ []) = reveal_by (number step) (number addr) (number len)
reveal_in _ = None

abbrev pub reveal_of : List ℕ → Option Reveal
reveal_of text = reveal_in (parts 44 text)

-- what the arguments choose: nothing, or bytes that may be any
abbrev pub IsChosen : CertifyArgs → ℕ → Option Chosen → Type 0
IsChosen args len None =
    NamesInput (text_of args.any) len None × Names memory_of (text_of args.any_memory) None
    × Names reveal_of (text_of args.reveal) None
IsChosen args len (Some chosen) =
    NamesInput (text_of args.any) len chosen.input × Names memory_of (text_of args.any_memory) chosen.memory
    × Names reveal_of (text_of args.reveal) chosen.reveal

-- one of them can't be read, or lies outside of the input, or something is revealed where nothing may be any
abbrev pub IsNotChosen : CertifyArgs → ℕ → End → Type 0
IsNotChosen args len end =
    NamesNoInput (text_of args.any) len end ⊎ (NamesNone AnyMemory memory_of (text_of args.any_memory) end
    ⊎ (NamesNone RevealOption reveal_of (text_of args.reveal) end ⊎ (end ≡ Lone LoneReveal)))

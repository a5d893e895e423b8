-- What the files that a command names give: a program, suppressions and an input, each judged, or why there is none.
use Rattle.std.specs.Prelude.{ℕ, ◌≡◌, ◌+◌, ◌<◌, ◌≤◌, ◌⊎◌, Bool, true, false, List, [], Option, Some, None, codes}
use Rattle.std.specs.Prelude.{IfSome, length, take}
use Rattle.std.specs.Io.KnownBytes.{Appends, Consumes}
use Rattle.std.specs.Str.{bytes_eq}
use Rattle.command_line.specs.declared.order.ProfileArgs.{ProfileArgs}
use Rattle.guest_elf.specs.File.{IsImageFor, refusal, early_refusal}
use Rattle.guest_elf.specs.declared.fault.ElfFault.{ElfFault}
use Rattle.guest_elf.specs.declared.fault.ElfFault.TheVariants as Elf
use Rattle.guest_elf.specs.declared.image.Image.{Image as ProgramImage}
use Rattle.guest_elf.specs.declared.profile.Profile.{Profile}
use Rattle.memory_map.specs.declared.regions.Regions.{Regions}
use Rattle.program_files.specs.Profiles.{IsProfileNamed, NoProfile}
use Rattle.scenario.specs.Limits.{longest_input}
use Rattle.exit_status.specs.declared.ends.End.{End}
use Rattle.exit_status.specs.declared.ends.End.TheVariants.{CannotRead, CannotReadInput, Image}
use Rattle.exit_status.specs.declared.ends.End.TheVariants.{Suppressions, SuppressionsTooLong, InputTooLarge, NoMemory}
use Rattle.suppressions.specs.Rules.{Rule}
use Rattle.suppressions.specs.Texts.{faults, rules, IsLeast}
use Rattle.suppressions.specs.declared.fault.SuppFault.TheVariants as Supp

-- what files give: a path's bytes, or none if it can't be read
abbrev pub Giving : Type 1
Giving = List ℕ → Option (List ℕ) → Type 0

-- the number of bytes of a program's file that are judged, and one more; and the greatest number of bytes of a text of
-- suppressions (this project's limits)
abbrev pub most_judged : ℕ
most_judged = 67108864

abbrev pub longest_text : ℕ
longest_text = 1048576

-- what standard input still has, and what standard output was given, if they say so
pub record Streams : Type 0 where
  pub left : Option (List ℕ)
  pub held : Option (List ℕ)

abbrev pub streams : Option (List ℕ) → Option (List ℕ) → Streams
streams left held = record { left = left; held = held }

-- nothing was read of standard input, and nothing written
abbrev pub Untouched : Streams → Streams → Type 0
Untouched old new = Consumes old.left new.left [] × Appends old.held new.held []

-- a file's bytes up to a limit, and one more if it is larger
abbrev pub IsFront : Giving → List ℕ → ℕ → List ℕ → Type 0
IsFront gives path limit front = (bytes : List ℕ) × gives path (Some bytes) × (front ≡ take (limit + 1) bytes)

-- a file gave no bytes: it can't be read, and the end names it as the order does; or memory ran out
abbrev pub NoBytes : Giving → List ℕ → End → Type 0
NoBytes gives path (CannotRead named) = (named.now ≡ path) × gives path None
NoBytes gives path NoMemory = Unit {0}
NoBytes gives path end = ⊥

-- why a program is rejected: the first of the reasons, or memory ran out, which hides none of those that are found
-- without memory
abbrev pub IsRefusedBy : ElfFault → Regions → List ℕ → Type 0
IsRefusedBy fault regions front =
    ((fault ≡ Elf.Memory) ⊎ (refusal regions front ≡ Some fault))
    × ((early : ElfFault) → early_refusal front ≡ Some early → fault ≡ early)

-- a file's program is refused where heap and stack have these regions, or there is no file
abbrev pub NoProgram : Giving → Regions → List ℕ → End → Type 0
NoProgram gives regions path (Image fault) =
    (front : List ℕ) × IsFront gives path most_judged front × IsRefusedBy fault regions front
NoProgram gives regions path end = NoBytes gives path end

-- the program of a file for a profile: its texts are judged, and then the file read
abbrev pub HasImage : Giving → ProfileArgs → List ℕ → ProgramImage → Type 0
HasImage gives words path image =
    (profile : Profile) × (front : List ℕ) × IsProfileNamed words profile × IsFront gives path most_judged front
    × IsImageFor profile front image

abbrev pub NoImage : Giving → ProfileArgs → List ℕ → End → Type 0
NoImage gives words path end =
    NoProfile words end
    ⊎ ((profile : Profile) × IsProfileNamed words profile × NoProgram gives profile.regions path end)

-- the suppressions of a file's text, or none if no file is named
abbrev pub HasRules : Giving → Option (List ℕ) → List Rule → Type 0
HasRules gives None list = list ≡ []
HasRules gives (Some path) list =
    (text : List ℕ) × gives path (Some text) × (length text ≤ longest_text) × (faults text ≡ []) × (list ≡ rules text)

abbrev pub NoRules : Giving → Option (List ℕ) → End → Type 0
NoRules gives None end = ⊥
NoRules gives (Some path) SuppressionsTooLong = (text : List ℕ) × gives path (Some text) × (longest_text < length text)
NoRules gives (Some path) (Suppressions (Supp.BadSuppression line)) =
    (text : List ℕ) × gives path (Some text) × (length text ≤ longest_text) × IsLeast line (faults text)
NoRules gives (Some path) (Suppressions Supp.Memory) =
    (text : List ℕ) × gives path (Some text) × (length text ≤ longest_text)
NoRules gives (Some path) end = NoBytes gives path end

-- the bytes of an input's file, or none if no file is named
abbrev pub HasInput : Giving → Option (List ℕ) → List ℕ → Type 0
HasInput gives None input = input ≡ []
HasInput gives (Some path) input = gives path (Some input) × (length input ≤ longest_input)

abbrev pub NoInput : Giving → Option (List ℕ) → End → Type 0
NoInput gives None end = ⊥
NoInput gives (Some path) InputTooLarge = (input : List ℕ) × gives path (Some input) × (longest_input < length input)
NoInput gives (Some path) end = NoBytes gives path end

-- the text of suppressions, or none if no file is named
abbrev pub HasText : Giving → Option (List ℕ) → List ℕ → Type 0
HasText gives None text = text ≡ []
HasText gives (Some path) text = gives path (Some text) × (length text ≤ longest_text)

abbrev pub NoText : Giving → Option (List ℕ) → End → Type 0
NoText gives None end = ⊥
NoText gives (Some path) SuppressionsTooLong = (text : List ℕ) × gives path (Some text) × (longest_text < length text)
NoText gives (Some path) end = NoBytes gives path end

-- the rules of a text, or why it has none
abbrev pub NoRulesIn : List ℕ → End → Type 0
NoRulesIn text (Suppressions (Supp.BadSuppression line)) = IsLeast line (faults text)
NoRulesIn text (Suppressions Supp.Memory) = Unit {0}
NoRulesIn text end = ⊥

-- the input of a sweep: for `-` what standard input had, if it says so, and otherwise that of a file
abbrev pub HasStream : Option (List ℕ) → List ℕ → Type 0
HasStream left input = IfSome left (λ bytes. input ≡ bytes) × (length input ≤ longest_input)

abbrev pub NoStream : Option (List ℕ) → End → Type 0
NoStream left CannotReadInput = Unit {0}
NoStream left InputTooLarge = IfSome left (λ bytes. longest_input < length bytes)
NoStream left NoMemory = Unit {0}
NoStream left end = ⊥

abbrev pub is_stream : Option (List ℕ) → Bool
is_stream None = false
is_stream (Some path) = bytes_eq path (codes "-")

abbrev pub HasInputBy : Bool → Giving → Option (List ℕ) → Option (List ℕ) → List ℕ → Type 0
HasInputBy true gives named left input = HasStream left input
HasInputBy false gives named left input = HasInput gives named input

abbrev pub HasSweepInput : Giving → Option (List ℕ) → Option (List ℕ) → List ℕ → Type 0
HasSweepInput gives named left input = HasInputBy (is_stream named) gives named left input

abbrev pub NoInputBy : Bool → Giving → Option (List ℕ) → Option (List ℕ) → End → Type 0
NoInputBy true gives named left end = NoStream left end
NoInputBy false gives named left end = NoInput gives named end

abbrev pub NoSweepInput : Giving → Option (List ℕ) → Option (List ℕ) → End → Type 0
NoSweepInput gives named left end = NoInputBy (is_stream named) gives named left end

-- The command language of a session: one line, its fields, and their command.
use Rattle.std.specs.Prelude.{ℕ, ◌≡◌, ◌⊎◌, IsOkAnd, ◌==◌, ◌&&◌, ◌^◌, nat_eq, nat_le, nat_lt, Bool, true, false}
use Rattle.std.specs.Prelude.{if◌then◌else◌, List, [], ◌∷◌, length, drop, Option, Some, None, Result, Ok, Err, codes}
use Rattle.std.specs.Char.{digit_value}
use Rattle.std.specs.List.{list_all, list_any, starts_with}
use Rattle.std.specs.Str.{bytes_eq}
use Rattle.std.specs.Str.Parse.{digits_value}
use Rattle.shadow_memory.specs.declared.cells.RangeKind.{RangeKind}
use Rattle.shadow_memory.specs.declared.cells.RangeKind.TheVariants.{NoAccess, Undefined, Defined}
use Rattle.run_values.specs.declared.alteration.Act.TheVariants.{Make}
use Rattle.suppressions.specs.Added.{added}
use Rattle.texts.specs.Parts.{parts}
use Rattle.suppressions.specs.Rules.{Rule}
use Rattle.suppressions.specs.Words.{leak_kinds}
use Rattle.suppressions.specs.declared.leak_kinds.LeakKinds.{LeakKinds}
use Rattle.commands.specs.declared.edit.Edit.TheVariants.{Input, Append, Cut, Patch, Mark, Unmark, Switch, Add, Callers}
use Rattle.commands.specs.declared.edit.Edit.TheVariants.{PatchHalf, Redzone, Volume, Show}
use Rattle.commands.specs.declared.edit.Edit.{Edit as AnEdit}
use Rattle.commands.specs.declared.command.Command.{Command}
use Rattle.commands.specs.declared.command.Command.TheVariants.{Goto, Report, Worked, Edit}
use Rattle.commands.specs.declared.fault.Fault.{Fault}
use Rattle.commands.specs.declared.fault.Fault.TheVariants.{Memory, BadCommand, BadOption, BadSuppression}

-- the fields of a line: its parts between spaces, so that two spaces in a row have an empty field between them
abbrev pub fields : List ℕ → List (List ℕ)
fields line = parts 32 line

-- is one of some fields empty?
abbrev pub has_empty : List (List ℕ) → Bool
has_empty words = list_any (λ word. length word == 0) words

-- does a field have from one to this many digits of a base, with letters in either case, and nothing else?
abbrev pub is_numeral : ℕ → ℕ → List ℕ → Bool
is_numeral base most field =
    nat_lt 0 (length field) && (nat_le (length field) most && list_all (λ c. nat_lt (digit_value c) base) field)

-- the number of at most this many digits, if it is below 2^32
unfoldable pub number_in : ℕ → ℕ → List ℕ → Option ℕ
number_in base most field =
    if is_numeral base most field && nat_lt (digits_value base field) (2 ^ 32) then Some (digits_value base field)
    else None

-- a number: one to ten decimal digits, or `0x` and one to eight hexadecimal ones
unfoldable pub number : List ℕ → Option ℕ
number field = if starts_with nat_eq field (codes "0x") then number_in 16 8 (drop 2 field) else number_in 10 10 field

-- a number, if it is a byte's value
abbrev pub small : Option ℕ → Option ℕ
small None = None
small (Some n) = if nat_lt n 256 then Some n else None

-- and if it is a half's
abbrev pub short : Option ℕ → Option ℕ
short None = None
short (Some n) = if nat_lt n 65536 then Some n else None

-- the number in the only field
unfoldable pub one_number : List (List ℕ) → Option ℕ
one_number (field ∷ []) = number field
one_number _ = None

-- the kind of a range
unfoldable pub kind_of : List ℕ → Option RangeKind
kind_of field =
    if bytes_eq field (codes "defined") then Some Defined
    else if bytes_eq field (codes "undefined") then Some Undefined
    else if bytes_eq field (codes "noaccess") then Some NoAccess
    else None

-- a command, or the fault of fields that aren't one
abbrev pub taken : Option Command → Result Command Fault
taken None = Err BadCommand
taken (Some command) = Ok command

-- a command without fields
unfoldable pub alone : Command → List (List ℕ) → Result Command Fault
alone command [] = Ok command
alone command (field ∷ more) = Err BadCommand

-- `goto N`
abbrev pub goto_with : Option ℕ → Option Command
goto_with None = None
goto_with (Some n) = Some (Goto n)

-- `unmark I`
abbrev pub unmark_with : Option ℕ → Option Command
unmark_with None = None
unmark_with (Some i) = Some (Edit (Unmark i))

-- `input OFFSET BYTE`
abbrev pub input_with : Option ℕ → Option ℕ → Option Command
input_with (Some offset) (Some value) = Some (Edit (Input offset value))
input_with (Some offset) None = None
input_with None value = None

unfoldable pub replace_of : List ℕ → List (List ℕ) → Option Command
replace_of offset (value ∷ []) = input_with (number offset) (small (number value))
replace_of offset _ = None

-- `input append BYTE`
abbrev pub append_with : Option ℕ → Option Command
append_with None = None
append_with (Some value) = Some (Edit (Append value))

unfoldable pub append_of : List (List ℕ) → Option Command
append_of (value ∷ []) = append_with (small (number value))
append_of _ = None

-- `input cut`
unfoldable pub cut_of : List (List ℕ) → Option Command
cut_of [] = Some (Edit Cut)
cut_of (field ∷ more) = None

-- an edit of the input
unfoldable pub input_of : List (List ℕ) → Option Command
input_of [] = None
input_of (word ∷ more) =
    if bytes_eq word (codes "append") then append_of more
    else if bytes_eq word (codes "cut") then cut_of more
    else replace_of word more

-- `patch ADDR WORD`
abbrev pub patch_with : Option ℕ → Option ℕ → Option Command
patch_with (Some addr) (Some word) = Some (Edit (Patch addr word))
patch_with (Some addr) None = None
patch_with None word = None

unfoldable pub patch_of : List (List ℕ) → Option Command
patch_of (addr ∷ word ∷ []) = patch_with (number addr) (number word)
patch_of _ = None

-- `patch16 ADDR HALF`
abbrev pub patch_half_with : Option ℕ → Option ℕ → Option Command
patch_half_with (Some addr) (Some half) = Some (Edit (PatchHalf addr half))
patch_half_with (Some addr) None = None
patch_half_with None half = None

unfoldable pub patch_half_of : List (List ℕ) → Option Command
patch_half_of (addr ∷ half ∷ []) = patch_half_with (number addr) (short (number half))
patch_half_of _ = None

-- `mark STEP ADDR LEN KIND`
abbrev pub mark_with : Option ℕ → Option ℕ → Option ℕ → Option RangeKind → Option Command
mark_with (Some step) (Some addr) (Some len) (Some kind) =
    Some (Edit (Mark (record { step = step; act = Make addr len kind })))
mark_with (Some step) (Some addr) (Some len) None = None
mark_with (Some step) (Some addr) None kind = None
mark_with (Some step) None len kind = None
mark_with None addr len kind = None

unfoldable pub mark_of : List (List ℕ) → Option Command
mark_of (step ∷ addr ∷ len ∷ kind ∷ []) = mark_with (number step) (number addr) (number len) (kind_of kind)
mark_of _ = None

-- `supp on I`, `supp off I`
abbrev pub switch_with : Bool → Option ℕ → Option Command
switch_with on None = None
switch_with on (Some i) = Some (Edit (Switch i on))

unfoldable pub switch_of : List (List ℕ) → Option Command
switch_of [] = None
switch_of (word ∷ more) =
    if bytes_eq word (codes "on") then switch_with true (one_number more)
    else if bytes_eq word (codes "off") then switch_with false (one_number more)
    else None

-- `supp add KIND WORDS..`: a suppression by the words of a suppression file
abbrev pub add_with : Option Rule → Result Command Fault
add_with None = Err BadSuppression
add_with (Some rule) = Ok (Edit (Add rule))

-- `option callers N`, `option redzone N`, `option queue N`
abbrev pub option_with : (ℕ → AnEdit) → Option ℕ → Result Command Fault
option_with make None = Err BadCommand
option_with make (Some n) = Ok (Edit (make n))

-- `option show LIST`: a list of leak kinds as in a suppression file
abbrev pub show_with : Option LeakKinds → Result Command Fault
show_with None = Err BadOption
show_with (Some kinds) = Ok (Edit (Show kinds))

-- an option by its name
unfoldable pub option_named : List ℕ → List ℕ → Result Command Fault
option_named name field =
    if bytes_eq name (codes "callers") then option_with (λ n. Callers n) (number field)
    else if bytes_eq name (codes "redzone") then option_with (λ n. Redzone n) (number field)
    else if bytes_eq name (codes "queue") then option_with (λ n. Volume n) (number field)
    else if bytes_eq name (codes "show") then show_with (leak_kinds field)
    else Err BadOption

unfoldable pub option_of : List (List ℕ) → Result Command Fault
option_of (name ∷ field ∷ []) = option_named name field
option_of _ = Err BadCommand

-- the command of a word and the fields after it
unfoldable pub command_of : List ℕ → List (List ℕ) → Result Command Fault
command_of word more =
    if bytes_eq word (codes "goto") then taken (goto_with (one_number more))
    else if bytes_eq word (codes "report") then alone Report more
    else if bytes_eq word (codes "input") then taken (input_of more)
    else if bytes_eq word (codes "patch") then taken (patch_of more)
    else if bytes_eq word (codes "patch16") then taken (patch_half_of more)
    else if bytes_eq word (codes "mark") then taken (mark_of more)
    else if bytes_eq word (codes "unmark") then taken (unmark_with (one_number more))
    else if bytes_eq word (codes "supp") then taken (switch_of more)
    else if bytes_eq word (codes "option") then option_of more
    else if bytes_eq word (codes "worked") then alone Worked more
    else Err BadCommand

abbrev pub command_among : List (List ℕ) → Result Command Fault
command_among [] = Err BadCommand
command_among (word ∷ more) = command_of word more

-- the command of a line, or why it is none; no field may be empty
unfoldable pub parsed : List ℕ → Result Command Fault
parsed line =
    if has_empty (fields line) then Err BadCommand
    else if starts_with nat_eq line (codes "supp add ") then add_with (added (drop 9 line))
    else command_among (fields line)

-- is a command a suppression to be added?
abbrev pub IsAdd : Command → Type 0
IsAdd (Edit (Add rule)) = Unit {0}
IsAdd _ = ⊥

-- a line is read as the definition says, unless memory runs out for its suppression
abbrev pub Reads : Result Command Fault → Result Command Fault → Type 0
Reads says result = (result ≡ says) ⊎ ((result ≡ Err Memory) × IsOkAnd says IsAdd)

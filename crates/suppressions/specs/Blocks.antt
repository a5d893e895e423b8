-- One block of a suppression text: the lines between `{` and `}` (Valgrind user manual, section 2.5; Memcheck manual,
-- section 4.4, for the lines that Param and Leak take).
use Rattle.std.specs.Prelude.{◌≡◌, ℕ, ◌==◌, ◌+◌, ◌⊎◌, Bool, true, false, IsTrue, nat_eq, List, [], ◌∷◌, take, drop}
use Rattle.std.specs.Prelude.{Option, Some, None, is_some, position, Result, MatchResult, if◌then◌else◌, codes}
use Rattle.std.specs.List.{starts_with, list_any, filter_map}
use Rattle.std.specs.Str.{bytes_eq}
use Rattle.suppressions.specs.declared.fault.SuppFault.{SuppFault}
use Rattle.suppressions.specs.declared.fault.SuppFault.TheVariants.{Memory, BadSuppression}
use Rattle.suppressions.specs.declared.frames.FrameLine.{FrameLine}
use Rattle.suppressions.specs.declared.leak_kinds.LeakKinds.{LeakKinds}
use Rattle.suppressions.specs.declared.subject.Subject.{Subject}
use Rattle.suppressions.specs.declared.subject.Subject.TheVariants.{Parameter, Leak, Nothing}
use Rattle.suppressions.specs.Lines.{Line}
use Rattle.texts.specs.Parts.{parts}
use Rattle.suppressions.specs.Rules.{Rule}
use Rattle.suppressions.specs.Words.{frame_of, plain_subject, leak_kinds, each_kind}

-- what a block is read as: the numbers of the lines at fault, whether a parameter or a frame line comes before the
-- first of them, and the suppression, which counts if there are none
pub record Reading : Type 0 where
  pub faults : List ℕ
  pub kept : Bool
  pub rule : Rule

-- a suppression that matches nothing
abbrev pub nothing : Rule
nothing = record { subject = Nothing; frames = []; on = true }

-- a block whose lines aren't looked at
abbrev pub skipped : Reading
skipped = record { faults = []; kept = false; rule = nothing }

-- a block that can't be read from some line on
abbrev pub fault_at : ℕ → Reading
fault_at number = record { faults = number ∷ []; kept = false; rule = nothing }

-- a line that isn't a frame line is at fault
abbrev pub frame_fault : Line → Option ℕ
frame_fault line = if is_some (frame_of line.text) then None else Some line.number

abbrev pub frame_faults : List Line → List ℕ
frame_faults lines = filter_map frame_fault lines

abbrev pub frame_lines : List Line → List FrameLine
frame_lines lines = filter_map (λ line. frame_of line.text) lines

-- is the first line a frame line?
abbrev pub begins_framed : List Line → Bool
begins_framed [] = false
begins_framed (line ∷ lines) = is_some (frame_of line.text)

-- a subject and frame lines
unfoldable pub framed_block : Subject → List Line → Reading
framed_block subject lines = record {
  faults = frame_faults lines;
  kept = begins_framed lines;
  rule = record { subject = subject; frames = frame_lines lines; on = true };
}

-- the parameter, and frame lines
abbrev pub parameter_block : List Line → ℕ → Reading
parameter_block [] close = fault_at close
parameter_block (line ∷ lines) close = record (framed_block (Parameter line.text) lines) { kept = true }

abbrev pub without_spaces : List ℕ → List ℕ
without_spaces [] = []
without_spaces (b ∷ bs) = if b == 32 then without_spaces bs else b ∷ bs

-- a list of leak kinds, if it is one, and frame lines
abbrev pub listed_block : ℕ → Option LeakKinds → List Line → Reading
listed_block number None lines = record { faults = number ∷ frame_faults lines; kept = false; rule = nothing }
listed_block number (Some kinds) lines = framed_block (Leak kinds) lines

-- the leak kinds, if they are given, and frame lines
abbrev pub leak_block : List Line → Reading
leak_block [] = framed_block (Leak each_kind) []
leak_block (line ∷ lines) =
    if starts_with nat_eq line.text (codes "match-leak-kinds:")
    then listed_block line.number (leak_kinds (without_spaces (drop 17 line.text))) lines
    else framed_block (Leak each_kind) (line ∷ lines)

abbrev pub plain_block : Option Subject → List Line → Reading
plain_block None lines = skipped
plain_block (Some subject) lines = framed_block subject lines

-- the lines after a kind
abbrev pub kind_block : List ℕ → List Line → ℕ → Reading
kind_block kind lines close =
    if bytes_eq kind (codes "Param") then parameter_block lines close
    else if bytes_eq kind (codes "Leak") then leak_block lines
    else plain_block (plain_subject kind) lines

-- is Memcheck among the tools, separated by commas (44)?
abbrev pub has_memcheck : List ℕ → Bool
has_memcheck tools = list_any (λ tool. bytes_eq tool (codes "Memcheck")) (parts 44 tools)

-- a line `TOOLS:KIND`, split at its first colon (58), and the lines after it
abbrev pub tools_block : Option ℕ → Line → List Line → ℕ → Reading
tools_block None line lines close = fault_at line.number
tools_block (Some colon) line lines close =
    if has_memcheck (take colon line.text) then kind_block (drop (colon + 1) line.text) lines close else skipped

abbrev pub named_block : List Line → ℕ → Reading
named_block [] close = fault_at close
named_block (line ∷ lines) close = tools_block (position (λ b. b == 58) line.text) line lines close

-- a name, which may be any line, `TOOLS:KIND`, and the lines after it; if one of them is missing, `}` is at fault
unfoldable pub block : List Line → ℕ → Reading
block [] close = fault_at close
block (name ∷ lines) close = named_block lines close

-- a fault names the first of the lines at fault; or memory ran out
abbrev pub IsFirstFault : List ℕ → SuppFault → Type 0
IsFirstFault faults Memory = Unit {0}
IsFirstFault faults (BadSuppression number) = (more : List ℕ) × (faults ≡ number ∷ more)

-- a block's fault names its first line at fault; or memory ran out for what comes before that
abbrev pub Refuses : Reading → SuppFault → Type 0
Refuses reading Memory = IsTrue reading.kept
Refuses reading (BadSuppression number) = IsFirstFault reading.faults (BadSuppression number)

-- a result is a reading's: its suppression if it has no fault, and otherwise a fault
abbrev pub Reads : Reading → Result Rule SuppFault → Type 0
Reads reading result = MatchResult result (λ rule. (reading.faults ≡ []) × (reading.rule ≡ rule)) (Refuses reading)

-- something of a block is kept: all of it, if it has no fault, or what comes before its first fault
abbrev pub KeepsSome : Reading → Type 0
KeepsSome reading = (reading.faults ≡ []) ⊎ IsTrue reading.kept

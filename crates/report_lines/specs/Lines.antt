-- The lines of a report, each with its newline. Numbers are decimal.
use Rattle.std.specs.Prelude.{ℕ, List, [], ◌∷◌, ◌++◌, codes, take, sum_by, min, length, Option, Some, None, unwrap_or}
use Rattle.std.specs.List.{flat_map}
use Rattle.std.specs.Fmt.{decimal}
use Rattle.guest_elf.specs.declared.image.Image.{Image}
use Rattle.guest_elf.specs.Images.{name_at}
use Rattle.run_values.specs.declared.status.Status.{Status}
use Rattle.run_values.specs.declared.status.Status.TheVariants.{Running, Exited, Stopped}
use Rattle.run_values.specs.declared.status.Stop.{Stop}
use Rattle.run_values.specs.declared.status.Stop.TheVariants.{Jump as JumpStop, Break, Illegal, Misaligned}
use Rattle.call_stacks.specs.declared.block.Block.{Block}
use Rattle.call_stacks.specs.declared.block.Near.{Near as NearBlock}
use Rattle.call_stacks.specs.declared.block.Place.{Place}
use Rattle.call_stacks.specs.declared.block.Place.TheVariants.{Before, Inside, After}
use Rattle.error_events.specs.Groups.{most}
use Rattle.error_events.specs.Parameters.{parameter_text}
use Rattle.error_events.specs.declared.parameter.Parameter.{Parameter}
use Rattle.error_events.specs.declared.kind.Kind.{Kind}
use Rattle.error_events.specs.declared.kind.Kind.TheVariants.{Read, Write, Value, Cond, Param, Free, Jump}
use Rattle.error_events.specs.declared.kind.ParameterFault.{ParameterFault}
use Rattle.error_events.specs.declared.kind.ParameterFault.TheVariants.{Contains, Uninit, Unaddressable}
use Rattle.error_events.specs.declared.event.Note.{Note}
use Rattle.error_events.specs.declared.event.Note.TheVariants.{Absent, Near, Stack, Elsewhere}
use Rattle.error_events.specs.declared.event.Group.{Group}
use Rattle.report_lines.specs.Text.{address_text, shown_name, newline}
use Rattle.report_lines.specs.declared.lines.ErrorSum.{ErrorSum}

-- `step N`
unfoldable pub step_line : ℕ → List ℕ
step_line n = codes "step " ++ decimal n ++ newline

-- why a machine stopped, in one word
abbrev pub stop_word : Stop → List ℕ
stop_word JumpStop = codes "jump"
stop_word Break = codes "break"
stop_word Illegal = codes "illegal"
stop_word Misaligned = codes "misaligned"

-- `state running A`, `state exited C` or `state stopped W A`, where A is pc
unfoldable pub state_line : Status → ℕ → List ℕ
state_line Running pc = codes "state running " ++ address_text pc ++ newline
state_line (Exited code) pc = codes "state exited " ++ decimal code ++ newline
state_line (Stopped stop) pc = codes "state stopped " ++ stop_word stop ++ codes " " ++ address_text pc ++ newline

-- `input P of L`
unfoldable pub input_line : ℕ → ℕ → List ℕ
input_line position len = codes "input " ++ decimal position ++ codes " of " ++ decimal len ++ newline

-- `output W`
unfoldable pub output_line : ℕ → List ℕ
output_line n = codes "output " ++ decimal n ++ newline

-- what is wrong with a parameter
abbrev pub fault_text : ParameterFault → List ℕ
fault_text Contains = codes " contains uninitialised byte(s)"
fault_text Uninit = codes " points to uninitialised byte(s)"
fault_text Unaddressable = codes " points to unaddressable byte(s)"

unfoldable pub param_text : Parameter → ParameterFault → List ℕ
param_text parameter fault = codes "Syscall param " ++ parameter_text parameter ++ fault_text fault

-- the text of an error (Memcheck manual, section 4.2)
unfoldable pub kind_text : Kind → List ℕ
kind_text (Read n) = codes "Invalid read of size " ++ decimal n
kind_text (Write n) = codes "Invalid write of size " ++ decimal n
kind_text Value = codes "Use of uninitialised value of size 4"
kind_text Cond = codes "Conditional jump or move depends on uninitialised value(s)"
kind_text (Param parameter fault) = param_text parameter fault
kind_text Free = codes "Invalid free() / realloc()"
kind_text Jump = codes "Jump to the invalid address stated on the next line"

-- `error COUNT: TEXT`
unfoldable pub error_line : ℕ → Kind → List ℕ
error_line count kind = codes "error " ++ decimal count ++ codes ": " ++ kind_text kind ++ newline

-- `   at A: NAME` and `   by A: NAME`
unfoldable pub frame_line : List ℕ → Image → ℕ → List ℕ
frame_line word image a =
    codes "   " ++ word ++ codes " " ++ address_text a ++ codes ": " ++ shown_name (name_at image a) ++ newline

-- the lines of a trace
unfoldable pub trace_lines : Image → List ℕ → List ℕ
trace_lines image [] = []
trace_lines image (a ∷ callers) = frame_line (codes "at") image a ++ flat_map (frame_line (codes "by") image) callers

-- on which side of a block an address lies
abbrev pub place_text : Place → List ℕ
place_text Before = codes " bytes before"
place_text Inside = codes " bytes inside"
place_text After = codes " bytes after"

-- whether a block is live or freed; and where it was freed or, if it is live, where it was allocated
abbrev pub state_text : Option (List ℕ) → List ℕ
state_text None = codes " alloc'd"
state_text (Some trace) = codes " free'd"

abbrev pub last_trace : Block → List ℕ
last_trace block = unwrap_or block.freed block.trace

-- ` Address A is I bytes inside` and ` a block of size S alloc'd`
unfoldable pub near_front : ℕ → NearBlock → List ℕ
near_front a near =
    codes " Address " ++ address_text a ++ codes " is " ++ decimal near.distance ++ place_text near.place

unfoldable pub near_back : Block → List ℕ
near_back block = codes " a block of size " ++ decimal block.size ++ state_text block.freed ++ newline

abbrev pub near_line : ℕ → NearBlock → List ℕ
near_line a near = near_front a near ++ near_back near.block

-- the lines of a note, if it has any; a block's trace is cut to this number of addresses
unfoldable pub note_lines : Image → ℕ → Note → List ℕ
note_lines image callers Absent = []
note_lines image callers (Near a near) = near_line a near ++ trace_lines image (take callers (last_trace near.block))
note_lines image callers (Stack a) = codes " Address " ++ address_text a ++ codes " is in the stack region" ++ newline
note_lines image callers (Elsewhere a) =
    codes " Address " ++ address_text a ++ codes " is not stack'd, malloc'd or (recently) free'd" ++ newline

-- the lines of a group of errors: traces are cut to this number of addresses
unfoldable pub group_lines : Image → ℕ → Group → List ℕ
group_lines image callers group =
    error_line group.count group.kind ++ trace_lines image (take callers group.trace)
    ++ note_lines image callers group.note

-- the number of errors; the sum stops at the greatest 64-bit number
abbrev pub error_total : List Group → ℕ
error_total groups = min (sum_by (λ g. g.count) groups) most

-- the sum of groups, as the summary has it
abbrev pub error_sum : List Group → ErrorSum
error_sum groups = record { errors = error_total groups; groups = length groups }

-- `ERROR SUMMARY: E errors from C contexts (suppressed: E2 from C2)`
unfoldable pub shown_summary : List Group → List ℕ
shown_summary groups =
    codes "ERROR SUMMARY: " ++ decimal (error_total groups) ++ codes " errors from " ++ decimal (length groups)
    ++ codes " contexts"

unfoldable pub hidden_summary : List Group → List ℕ
hidden_summary groups =
    codes " (suppressed: " ++ decimal (error_total groups) ++ codes " from " ++ decimal (length groups) ++ codes ")"
    ++ newline

abbrev pub summary_line : List Group → List Group → List ℕ
summary_line shown hidden = shown_summary shown ++ hidden_summary hidden

-- The line of a verdict on a run for every value of some bytes.
use Rattle.std.specs.Prelude.{◌+◌, ◌-◌, ◌==◌, ℕ, Bool, true, false, List, [], ◌++◌, Option, Some, None, codes}
use Rattle.std.specs.Prelude.{if◌then◌else◌}
use Rattle.std.specs.Prelude.{max, nat_lt}
use Rattle.std.specs.Fmt.{decimal}
use Rattle.error_events.specs.declared.kind.Kind.{Kind}
use Rattle.guest_elf.specs.declared.image.Image.{Image}
use Rattle.report_lines.specs.Lines.{kind_text}
use Rattle.report_lines.specs.Text.{address_text, newline}
use Rattle.run_values.specs.declared.span.Span.{Span}
use Rattle.shadow_memory.specs.Ranges.{above}
use Rattle.clean_reports.specs.Lines.{trace_text}
use Rattle.clean_reports.specs.declared.verdict.FirstUse.{FirstUse}
use Rattle.any_verdicts.specs.declared.any_bytes.Reveal.{Reveal}
use Rattle.any_verdicts.specs.declared.chosen.Chosen.{Chosen}
use Rattle.any_verdicts.specs.declared.verdict.AnyVerdict.{AnyVerdict}
use Rattle.any_verdicts.specs.declared.verdict.AnyVerdict.TheVariants.{Same, Use, StackPointer, Write, Closed}
use Rattle.any_verdicts.specs.declared.verdict.Closed.{Closed as ClosedByte}
use Rattle.any_verdicts.specs.declared.verdict.Closed.TheVariants as closed

-- what a verdict is about --

-- `A`, or `A..B` with both ends
unfoldable pub positions_text : ℕ → ℕ → List ℕ
positions_text first last = decimal first ++ (if first == last then [] else codes ".." ++ decimal last)

abbrev pub input_text : ℕ → ℕ → List ℕ
input_text start len = positions_text start (start + len - 1)

-- `memory A..B`, without B
unfoldable pub memory_text : ℕ → ℕ → List ℕ
memory_text start len = codes "memory " ++ address_text start ++ codes ".." ++ address_text (above start len)

abbrev pub ranges_text : Option Span → Option Span → List ℕ
ranges_text (Some input) (Some memory) =
    input_text input.start input.len ++ codes ", " ++ memory_text memory.start memory.len
ranges_text (Some input) None = input_text input.start input.len
ranges_text None (Some memory) = memory_text memory.start memory.len
ranges_text None None = []

-- `any A..B, memory A..B`
unfoldable pub subject_text : Chosen → List ℕ
subject_text chosen = codes "any " ++ ranges_text chosen.input chosen.memory

-- what these bytes are
abbrev pub bytes_text : Option Span → Option Span → List ℕ
bytes_text (Some input) (Some memory) = codes "these bytes"
bytes_text (Some input) None =
    if input.len == 1 then codes "this byte of the input" else codes "these bytes of the input"
bytes_text None (Some memory) = codes "these bytes of memory"
bytes_text None None = codes "these bytes"

-- ` that leaves the same L defined bytes at A before step N`
unfoldable pub revealed_len : ℕ → List ℕ
revealed_len len = codes " that leaves the same " ++ decimal len

unfoldable pub revealed_at : ℕ → List ℕ
revealed_at start = codes " defined bytes at " ++ address_text start

unfoldable pub revealed_step : ℕ → List ℕ
revealed_step step = codes " before step " ++ decimal step

unfoldable pub revealed_text : ℕ → ℕ → ℕ → List ℕ
revealed_text step start len = revealed_len len ++ revealed_at start ++ revealed_step step

abbrev pub reveal_text : Option Reveal → List ℕ
reveal_text (Some reveal) = revealed_text reveal.step reveal.span.start reveal.span.len
reveal_text None = []

-- a run that is the same --

-- `any ..: the run is the same up to step N`
unfoldable pub same_front : Chosen → ℕ → List ℕ
same_front chosen step = subject_text chosen ++ codes ": the run is the same up to step " ++ decimal step

-- ` for each value of ..`
unfoldable pub value_text : Option Span → Option Span → List ℕ
value_text input memory = codes " for each value of " ++ bytes_text input memory

unfoldable pub values_text : Chosen → List ℕ
values_text chosen = value_text chosen.input chosen.memory ++ reveal_text chosen.reveal

abbrev pub same_what : List ℕ
same_what =
    codes ": same instructions, same addresses, same status, same errors but for writes of uninitialised bytes"

-- what is the same, by whether the run has ended
abbrev pub same_end : Bool → List ℕ
same_end true = same_what ++ newline
same_end false = same_what ++ codes "; the run goes on\n"

-- ` input A..B is not read up to step N`, of the positions of a range from one on
unfoldable pub unread_front : ℕ → ℕ → List ℕ
unread_front first last = codes " input " ++ positions_text first last

unfoldable pub unread_end : ℕ → List ℕ
unread_end step = codes " is not read up to step " ++ decimal step

unfoldable pub unread_line : ℕ → ℕ → ℕ → List ℕ
unread_line first last step = unread_front first last ++ unread_end step ++ newline

abbrev pub unread_at : ℕ → ℕ → ℕ → ℕ → List ℕ
unread_at start len read step =
    if nat_lt read (start + len) then unread_line (max read start) (start + len - 1) step else []

abbrev pub unread_text : Option Span → ℕ → ℕ → List ℕ
unread_text None read step = []
unread_text (Some input) read step = unread_at input.start input.len read step

unfoldable pub same_line : Chosen → ℕ → Bool → ℕ → List ℕ
same_line chosen step ended read =
    same_front chosen step ++ values_text chosen ++ same_end ended ++ unread_text chosen.input read step

-- a run that may not be --

-- `not the same for any ..: `
unfoldable pub no_subject : Chosen → List ℕ
no_subject chosen = codes "not the same for " ++ subject_text chosen

unfoldable pub no_front : Chosen → List ℕ
no_front chosen = no_subject chosen ++ codes ": "

-- `first use at step N: TEXT at A: NAME, by A: NAME`
unfoldable pub use_step : ℕ → List ℕ
use_step step = codes "first use at step " ++ decimal step

unfoldable pub use_kind : Kind → List ℕ
use_kind kind = codes ": " ++ kind_text kind

unfoldable pub use_text : Image → FirstUse → List ℕ
use_text image found = use_step found.step ++ use_kind found.kind ++ trace_text image found.trace

-- `at step N: ..`
unfoldable pub at_text : ℕ → List ℕ → List ℕ
at_text step text = codes "at step " ++ decimal step ++ codes ": " ++ text

abbrev pub pointer_text : List ℕ
pointer_text = codes "the stack pointer may depend on them"

abbrev pub write_text : List ℕ
write_text = codes "a write has a byte that may not be accessed behind one that depends on them"

-- `input P is read at step N into bytes that may not be accessed`
unfoldable pub read_front : ℕ → List ℕ
read_front position = codes "input " ++ decimal position

unfoldable pub read_step : ℕ → List ℕ
read_step step = codes " is read at step " ++ decimal step

unfoldable pub read_text : ℕ → ℕ → List ℕ
read_text step position =
    read_front position ++ read_step step ++ codes " into bytes that may not be accessed"

-- `A may not be accessed at step N`
unfoldable pub shut_front : ℕ → List ℕ
shut_front addr = address_text addr ++ codes " may not be accessed at step "

unfoldable pub shut_text : ℕ → ℕ → List ℕ
shut_text addr step = shut_front addr ++ decimal step

-- a byte that may not be accessed
abbrev pub closed_text : ClosedByte → List ℕ
closed_text (closed.Input step position) = read_text step position
closed_text (closed.Memory addr) = shut_text addr 0
closed_text (closed.Revealed step addr) = shut_text addr step

abbrev pub no_text : Image → AnyVerdict → List ℕ
no_text image (Same ended read) = []
no_text image (Use found) = use_text image found
no_text image (StackPointer step) = at_text step pointer_text
no_text image (Write step) = at_text step write_text
no_text image (Closed byte) = closed_text byte

unfoldable pub no_line : Chosen → List ℕ → List ℕ
no_line chosen text = no_front chosen ++ text ++ newline

-- the line of the verdict on a run up to a step
abbrev pub any_line : Image → Chosen → ℕ → AnyVerdict → List ℕ
any_line image chosen step (Same ended read) = same_line chosen step ended read
any_line image chosen step verdict = no_line chosen (no_text image verdict)

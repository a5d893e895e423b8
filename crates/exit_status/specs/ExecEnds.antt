-- How `exec` ends. Its exit status is that of the program that it runs; in other cases one that a shell, env(1) or
-- timeout(1) has.
use Rattle.std.specs.Prelude.{ℕ, ◌+◌, ◌%◌, ◌==◌, ◌&&◌, ◌||◌, Bool, true, false, if◌then◌else◌, List, [], ◌++◌, Option}
use Rattle.std.specs.Prelude.{◌∷◌, Some, None, is_some, not}
use Rattle.std.specs.Prelude.{codes, decimal, length, nat_lt}
use Rattle.std.specs.List.{flat_map}
use denote.Ref.{Bor}
use Rattle.guest_elf.specs.declared.fault.ElfFault.TheVariants.{Memory}
use Rattle.guest_elf.specs.declared.profile.StreamLimits.{StreamLimits}
use Rattle.run_values.specs.declared.status.Status.{Status}
use Rattle.run_values.specs.declared.status.Status.TheVariants.{Running, Exited, Stopped}
use Rattle.run_values.specs.declared.status.Stop.{Stop}
use Rattle.run_values.specs.declared.status.Stop.TheVariants.{Jump, Break, Illegal, Misaligned}
use Rattle.exit_status.specs.Ends.{line_of, line_with}
use Rattle.exit_status.specs.declared.ends.End.{End}
use Rattle.exit_status.specs.declared.ends.End.TheVariants.{Done, CannotRead, CannotReadInput, Image, Suppressions}
use Rattle.exit_status.specs.declared.ends.End.TheVariants.{SuppressionsTooLong, InputTooLarge}
use Rattle.exit_status.specs.declared.exec_ends.ExecEnd.{ExecEnd}
use Rattle.exit_status.specs.declared.exec_ends.ExecEnd.TheVariants.{Early, BadPatch, PatchRefused, BadKinds}
use Rattle.exit_status.specs.declared.exec_ends.ExecEnd.TheVariants.{ReportInPlace}
use Rattle.exit_status.specs.declared.exec_ends.ExecEnd.TheVariants.{NoReport, Ran}
use Rattle.exit_status.specs.declared.ended.Ended.{Ended}
use Rattle.exit_status.specs.declared.ended.Ended.TheVariants.{AtLast, Overflow, OverLimit}
use Rattle.exit_status.specs.declared.exec_ends.Outcome.{Outcome}
use Rattle.exit_status.specs.declared.exec_ends.ChosenStatuses.{ChosenStatuses}
use Rattle.exit_status.specs.declared.exec_ends.ExecDone.{ExecDone}
use Rattle.report_lines.specs.Text.{address_text}
use Rattle.suppressions.specs.declared.fault.SuppFault.TheVariants as Supp
use Rattle.unknown_calls.specs.declared.UnknownCall.{UnknownCall}

-- ---- a run

-- a program that stops has the status that a shell gives for the signal (signal(7) of Linux): SIGILL 4, SIGTRAP 5,
-- SIGBUS 7, SIGSEGV 11
abbrev pub stop_status : Stop → ℕ
stop_status Illegal = 128 + 4
stop_status Break = 128 + 5
stop_status Misaligned = 128 + 7
stop_status Jump = 128 + 11

-- one that rests in a jump to itself that of timeout(1), unless a status was chosen for that
abbrev pub resting_status : Option ℕ → ℕ
resting_status (Some chosen) = chosen
resting_status None = 124

-- a run is held to have failed: it has errors, or those of its heap can't be found and it is asked for that they can
abbrev pub has_failed : Outcome → Bool
has_failed outcome = outcome.has_errors || outcome.heap_fails

-- one that has failed has the status that was chosen for errors; without one, an unseen heap counts as refused, and
-- errors don't change the status
abbrev pub judged_status : Option ℕ → Outcome → ℕ → ℕ
judged_status (Some chosen) outcome own = if has_failed outcome then chosen else own
judged_status None outcome own = if outcome.heap_fails then 126 else own

-- where a program still runs, the status is that of timeout(1) or of its rest; where it exits, its own; both are judged
abbrev pub standing_status : ChosenStatuses → Outcome → Status → ℕ
standing_status codes outcome Running =
    if outcome.idles then judged_status codes.errors outcome (resting_status codes.idle) else 124
standing_status codes outcome (Exited code) = judged_status codes.errors outcome code
standing_status codes outcome (Stopped stop) = stop_status stop

-- a run that is ended because its memory runs over a limit has this status
abbrev pub over_status : ℕ
over_status = 122

-- a run that is ended where its stack overflows has the status of a jump to no memory, since an emulator has SIGSEGV
-- there; whatever statuses were chosen
abbrev pub ended_status : ChosenStatuses → Outcome → Ended → ℕ
ended_status codes outcome AtLast = standing_status codes outcome outcome.status
ended_status codes outcome (Overflow pointer) = stop_status Jump
ended_status codes outcome (OverLimit most) = over_status

-- a run that would end with 0 though output was lost ends with this
abbrev pub lost_status : ℕ
lost_status = 123

abbrev pub unless_lost : ℕ → ℕ → ℕ
unless_lost lost status = if (status == 0) && nat_lt 0 lost then lost_status else status

-- the exit status of a run, of which the system keeps eight bits (exit(3))
abbrev pub run_status : ChosenStatuses → Outcome → ℕ
run_status codes outcome = unless_lost outcome.lost (ended_status codes outcome outcome.ended % 256)

-- ---- all ends

-- 125: the command line, memory, or a write; 126: what is run is refused; 127: it can't be read
abbrev pub early_status : End → ℕ
early_status Done = 0
early_status (CannotRead path) = 127
early_status CannotReadInput = 127
early_status (Image Memory) = 125
early_status (Image fault) = 126
early_status (Suppressions Supp.Memory) = 125
early_status (Suppressions (Supp.BadSuppression line)) = 126
early_status SuppressionsTooLong = 126
early_status InputTooLarge = 126
early_status _ = 125

abbrev pub exec_status : ExecEnd → ℕ
exec_status (Early end) = early_status end
exec_status (BadPatch text) = 125
exec_status (BadKinds text) = 125
exec_status (ReportInPlace path) = 125
exec_status (NoReport place) = 125
exec_status (PatchRefused text) = 126
exec_status (Ran codes outcome) = run_status codes outcome

-- what is said on standard error of a run: that it still runs or rests, unless a status was chosen for where it rests;
-- and the number of `write`s that found no room
abbrev pub running_line : ℕ → List ℕ
running_line step = line_with (codes "replaycheck exec: still running at step ") (decimal step)

abbrev pub resting_line : ℕ → List ℕ
resting_line step =
    line_with
    (codes
    "replaycheck exec: in a jump to itself (--idle-exitcode=0 passes that, as a failed assert that loops) at step ")
    (decimal step)

abbrev pub lost_line : StreamLimits → ℕ → List ℕ
lost_line limits lost =
    codes "replaycheck exec: " ++ decimal limits.most_output
    ++ line_with (codes " bytes of output are all there is room for (--most-output); writes refused: ") (decimal lost)

abbrev pub going_lines : Option ℕ → Bool → ℕ → List ℕ
going_lines (Some chosen) true step = []
going_lines None true step = resting_line step
going_lines _ false step = running_line step

abbrev pub standing_lines : Option ℕ → Outcome → Status → List ℕ
standing_lines idle outcome Running = going_lines idle outcome.idles outcome.step
standing_lines idle outcome _ = []

-- or why it is ended: where the stack overflows, in Valgrind's words with the stack pointer; or that it needs more
-- memory than the limit, in MiB, and at which step
abbrev pub overflow_line : ℕ → List ℕ
overflow_line pointer =
    line_with (codes "replaycheck exec: Stack overflow in thread #1: can't grow stack to ") (address_text pointer)

abbrev pub needed_line : ℕ → List ℕ
needed_line step =
    codes " MiB of memory are needed at step " ++ decimal step ++ line_with (codes " (--memory-limit)") []

abbrev pub over_line : ℕ → ℕ → List ℕ
over_line most step = codes "replaycheck exec: more than " ++ decimal most ++ needed_line step

abbrev pub ended_lines : Option ℕ → Outcome → Ended → List ℕ
ended_lines idle outcome AtLast = standing_lines idle outcome outcome.status
ended_lines idle outcome (Overflow pointer) = overflow_line pointer
ended_lines idle outcome (OverLimit most) = over_line most outcome.step

-- how many bytes there is room for: 2^64 - 1 is no limit
abbrev pub most_text : ℕ → List ℕ
most_text most = if most == 18446744073709551615 then codes "none" else decimal most

-- with which options another command repeats a run in which it matters how many bytes calls move
abbrev pub limits_line : StreamLimits → List ℕ
limits_line limits =
    codes "replaycheck exec: other commands repeat this run with --most-moved " ++ decimal limits.most_moved
    ++ line_with (codes " --most-output ") (most_text limits.most_output)

unfoldable pub stream_lines : Outcome → List ℕ
stream_lines outcome =
    (if nat_lt 0 outcome.lost then lost_line outcome.limits outcome.lost else [])
    ++ (if outcome.limits_told then limits_line outcome.limits else [])

abbrev pub run_lines : ChosenStatuses → Outcome → List ℕ
run_lines codes outcome = ended_lines codes.idle outcome outcome.ended ++ stream_lines outcome

-- what is said of a heap whose errors can't be found, or of other functions that may give blocks: their names; or that
-- there are no names
abbrev pub heap_words : List ℕ → List ℕ
heap_words names =
    if length names == 0
    then codes ": errors of the heap can't be found: the file has no symbols: strip it with --strip-debug only"
    else codes ": errors of the heap can't be found in blocks of these (see `replaycheck adopt`, --not-heap): "

abbrev pub heap_line : List ℕ → List ℕ → List ℕ
heap_line file names = codes "replaycheck exec: " ++ file ++ line_with (heap_words names) names

-- the name of the place of a report: the path of a file, or standard error
abbrev pub place_name : Option (Bor (List ℕ)) → List ℕ
place_name (Some path) = path.now
place_name None = codes "standard error"

abbrev pub exec_lines : ExecEnd → List ℕ
exec_lines (Early end) = line_of end
exec_lines (BadPatch text) = line_with (codes "replaycheck exec: not ADDR=WORD: --patch ") text.now
exec_lines (BadKinds text) = line_with (codes "replaycheck exec: no list of leak kinds: ") text.now
exec_lines (ReportInPlace path) =
    line_with (codes "replaycheck exec: the report would replace a file that is read: ") path.now
exec_lines (NoReport place) = line_with (codes "replaycheck exec: cannot write the report: ") (place_name place)
exec_lines (PatchRefused text) = line_with (codes "replaycheck exec: patch refused 4: ") text.now
exec_lines (Ran codes outcome) = run_lines codes outcome

abbrev pub heap_lines : ExecEnd → List ℕ → List ℕ → List ℕ
heap_lines (Ran codes outcome) file names = if outcome.heap_told then heap_line file names else []
heap_lines end file names = []

-- which calls of a run aren't known, and how often each was made
abbrev pub times_word : ℕ → List ℕ
times_word times = if times == 1 then codes " time)" else codes " times)"

abbrev pub call_line : UnknownCall → List ℕ
call_line call =
    codes "replaycheck: call " ++ (decimal call.number ++ codes " isn't known ("
    ++ line_with (decimal call.times) (times_word call.times))

abbrev pub unknown_lines : ExecEnd → List UnknownCall → List ℕ
unknown_lines (Ran codes outcome) calls = flat_map call_line calls
unknown_lines end calls = []

-- ---- on lines of their own

-- is something said of a run that hasn't ended?
abbrev pub says_standing : Option ℕ → Outcome → Status → Bool
says_standing idle outcome Running = not (outcome.idles && is_some idle)
says_standing idle outcome _ = false

abbrev pub says_ended : Option ℕ → Outcome → Ended → Bool
says_ended idle outcome AtLast = says_standing idle outcome outcome.status
says_ended idle outcome _ = true

-- is something said of a run?
abbrev pub says_run : ChosenStatuses → Outcome → List UnknownCall → Bool
says_run codes outcome calls =
    says_ended codes.idle outcome outcome.ended || nat_lt 0 outcome.lost || outcome.limits_told || outcome.heap_told
    || nat_lt 0 (length calls)

-- a newline, if something is said and the program's last line on standard error is open
abbrev pub line_end : ExecEnd → List UnknownCall → List ℕ
line_end (Ran codes outcome) calls = if outcome.is_open && says_run codes outcome calls then 10 ∷ [] else []
line_end end calls = []

-- what is said of an end on standard error
abbrev pub done_lines : ExecDone → List ℕ
done_lines done =
    line_end done.end done.unknown.items ++ (exec_lines done.end
    ++ (heap_lines done.end done.file.now done.names.items ++ unknown_lines done.end done.unknown.items))

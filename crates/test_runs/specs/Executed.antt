-- What becomes of `exec`: its options are judged, then its files, then the run is made, and then its report is written.
use Rattle.std.specs.Prelude.{◌≡◌, ◌≤◌, ◌<◌, ◌⊎◌, ◌||◌, ◌&&◌, not, nat_lt, ℕ, Bool, true, false, List, [], Option, Some}
use Rattle.std.specs.Prelude.{◌∷◌, ◌++◌, None, if◌then◌else◌, is_none, is_some, length, option_map, take}
use Rattle.std.specs.Str.{bytes_eq}
use denote.Ref.{Bor}
use Rattle.std.specs.Io.KnownBytes.{Appends, Consumes}
use Rattle.command_line.specs.Orders.{input_path, rules_path}
use Rattle.command_line.specs.declared.order.Order.{Order}
use Rattle.command_line.specs.declared.order.ExecArgs.{ExecArgs}
use Rattle.exit_status.specs.declared.ends.End.{End}
use Rattle.exit_status.specs.declared.ends.End.TheVariants.{CannotWrite, NoMemory}
use Rattle.test_runs.specs.declared.fault.ExecutionFault.{ExecutionFault}
use Rattle.test_runs.specs.declared.fault.ExecutionFault.TheVariants as Fault
use Rattle.exit_status.specs.declared.ended.Ended.{Ended}
use Rattle.exit_status.specs.declared.exec_ends.ChosenStatuses.{ChosenStatuses}
use Rattle.exit_status.specs.declared.exec_ends.ExecEnd.{ExecEnd}
use Rattle.exit_status.specs.declared.exec_ends.ExecEnd.TheVariants.{BadKinds, Early, NoReport, Ran, ReportInPlace}
use Rattle.exit_status.specs.declared.exec_ends.Outcome.{Outcome}
use Rattle.test_runs.specs.Executions.{calls_at, is_open_at, needs_at, refused_at, state_at, step_of, written_at}
use Rattle.test_runs.specs.Executions.{Gives, Held, IsAt, Wrote, WroteFront}
use Rattle.test_runs.specs.declared.execution.Execution.{Execution}
use Rattle.test_runs.specs.declared.executing.Choices.{Choices}
use Rattle.test_runs.specs.declared.executing.Plan.{Plan}
use Rattle.file_heaps.specs.FileHeaps.{is_seen, is_unseen, known_of, sight_of, unknown_names}
use Rattle.file_heaps.specs.declared.heap.Sight.{Sight}
use Rattle.guest_elf.specs.Defined.{SymbolContent, defined_in}
use Rattle.guest_elf.specs.File.{IsImageFor}
use Rattle.guest_elf.specs.Images.{profile_of}
use Rattle.guest_elf.specs.declared.profile.Profile.{Profile}
use Rattle.guest_elf.specs.declared.image.Image.{Image}
use Rattle.command_line.specs.declared.order.ProfileArgs.{ProfileArgs}
use Rattle.guest_machine.specs.Streams.{is_idle}
use Rattle.program_files.specs.Files.{Giving, HasStream, IsFront, NoImage, NoStream, most_judged}
use Rattle.program_files.specs.Profiles.{IsProfileNamed}
use Rattle.replay_report.specs.Findings.{HasFindings}
use Rattle.run_values.specs.declared.status.Status.{Status}
use Rattle.run_values.specs.declared.status.Status.TheVariants.{Stopped}
use Rattle.scenario.specs.Edits.{shown, with_input}
use Rattle.scenario.specs.Scenario.{Scenario, at_step, chosen_state, IsReportOf}
use Rattle.suppressions.specs.Words.{leak_kinds}
use Rattle.suppressions.specs.declared.leak_kinds.LeakKinds.{LeakKinds}
use Rattle.unknown_calls.specs.declared.UnknownCall.{UnknownCall}
use Rattle.test_runs.specs.Overflows.{AsksAt, ComesTo, EndsAt}
use Rattle.test_runs.specs.Prepared.{Makes, MakesNone}

-- what standard input still has, and what standard output, standard error and the report's file were given, where they
-- tell it; and the place of the report that is open, if one is: the path of a file, or standard error
pub record Pipes : Type 0 where
  pub left : Option (List ℕ)
  pub held : Held
  pub logged : Option (List ℕ)
  pub opened : Option (Option (List ℕ))

abbrev pub pipes :
    Option (List ℕ) → Held → Option (List ℕ) → Option (Option (List ℕ)) → Pipes
pipes left held logged opened = record { left = left; held = held; logged = logged; opened = opened }

-- ---- a run

-- has the run called the heap?
abbrev pub is_called : Scenario → Bool
is_called sc = nat_lt 0 (chosen_state sc).heap_calls

abbrev pub sight_in : Plan → Scenario → Sight
sight_in plan sc = sight_of plan.known (is_called sc)

-- a heap whose errors can't be found is a failure, if that is asked for; it is said then, and otherwise unless only
-- errors are asked for, as is a heap that is seen in part
abbrev pub fails_at : Plan → Sight → Bool
fails_at plan sight = plan.requires_heap && is_unseen sight

abbrev pub told_at : Plan → Sight → Bool
told_at plan sight = fails_at plan sight || (not plan.quiet && not (is_seen sight))

-- that it matters how many bytes calls move is said, too, unless only errors are asked for
abbrev pub limits_told : Plan → Bool → Bool
limits_told plan matters = matters && not plan.quiet

-- how a run stands at its last step, which it ends at for a reason, where its last line on standard error is still open
-- or isn't
pub record IsOutcome (sc : Scenario) (why : Ended) (plan : Plan) (left : Bool) (outcome : Outcome) : Type 0 where
  pub step : outcome.step ≡ sc.step
  pub ended : outcome.ended ≡ why
  pub status : outcome.status ≡ (chosen_state sc).core.status
  pub idles : outcome.idles ≡ is_idle (chosen_state sc) sc.setup
  pub has_errors :
      HasFindings (chosen_state sc) sc.image sc.rules sc.options.callers (shown plan.count) outcome.has_errors
  pub lost : outcome.lost ≡ refused_at sc sc.step
  pub limits : outcome.limits ≡ (profile_of sc.image).limits
  pub limits_told : outcome.limits_told ≡ limits_told plan (needs_at sc sc.step)
  pub heap_fails : outcome.heap_fails ≡ fails_at plan (sight_in plan sc)
  pub heap_told : outcome.heap_told ≡ told_at plan (sight_in plan sc)
  pub is_open : outcome.is_open ≡ left

-- has the program stopped?
abbrev pub is_stopped : Status → Bool
is_stopped (Stopped stop) = true
is_stopped _ = false

-- a report tells something: a stop, an error, or a leak that is listed
abbrev pub Tells : Scenario → Bool → Type 0
Tells sc told =
    (found : Bool) × HasFindings (chosen_state sc) sc.image sc.rules sc.options.callers sc.options.show found
    × (told ≡ (is_stopped (chosen_state sc).core.status || found))

-- a text is the report, if it tells something or any is asked for; or nothing, if only one that tells something is, and
-- it doesn't
abbrev pub IsTold : Bool → Scenario → List ℕ → Type 0
IsTold quiet sc text =
    (((quiet ≡ false) ⊎ Tells sc true) × IsReportOf sc text) ⊎ ((quiet ≡ true) × Tells sc false × (text ≡ []))

-- nothing of the output was written, or what was written before some step and a front of what that step writes
abbrev pub CutsOutput : Scenario → Held → Held → Type 0
CutsOutput sc old new = Gives old new [] [] ⊎ WroteFront sc 0 old new

-- where a report goes: the path of a file, or standard error
abbrev pub Place : Type 0
Place = Option (Bor (List ℕ))

abbrev pub path_of : Place → Option (List ℕ)
path_of place = option_map (λ path. path.now) place

-- is the program's last line on standard error ended before a report? If it is open, and the report has text and goes
-- to standard error; or if that is asked for
abbrev pub ends_line : Plan → Bool → List ℕ → Bool
ends_line plan is_open text = is_open && nat_lt 0 (length text) && (is_none plan.place || plan.end_line)

-- what is written on standard error before the report
abbrev pub before_report : Plan → Scenario → List ℕ → List ℕ
before_report plan sc text = if ends_line plan (is_open_at sc sc.step) text then 10 ∷ [] else []

-- is the program's last line on standard error still open after the report?
abbrev pub left_open : Plan → Scenario → List ℕ → Bool
left_open plan sc text = is_open_at sc sc.step && not (ends_line plan (is_open_at sc sc.step) text)

-- with the output written, and a line end after it on standard error: the report was written to its place, and the end
-- says how the run stands; or that failed, after a front of it; or memory ran out
abbrev pub Finishes : Plan → Scenario → Ended → List ℕ → Option (List ℕ) → Option (List ℕ) → ExecEnd → Type 0
Finishes plan sc ended line old new (Ran chosen outcome) =
    (chosen ≡ plan.codes) × (text : List ℕ) × IsTold plan.quiet sc text × IsOutcome sc ended plan
    (left_open plan sc text) outcome
    × (line ≡ before_report plan sc text) × Appends old new text
Finishes plan sc ended line old new (NoReport failed) =
    (failed ≡ plan.place) × (text : List ℕ) × (sent : ℕ) × IsTold plan.quiet sc text × (sent ≤ length text)
    × (line ≡ before_report plan sc text) × Appends old new (take sent text)
Finishes plan sc ended line old new (Early NoMemory) = (line ≡ []) × Appends old new []
Finishes plan sc ended line old new (Early CannotWrite) = (sent : ℕ) × (line ≡ take sent (10 ∷ [])) × Appends old new []
Finishes plan sc ended line old new end = ⊥

-- how a fault of an execution ends it
abbrev pub end_of_fault : ExecutionFault → End
end_of_fault Fault.NoMemory = NoMemory
end_of_fault Fault.WriteFailed = CannotWrite

-- the run ends early: a write failed, or memory ran out
abbrev pub IsFault : ExecEnd → Type 0
IsFault end = (end ≡ Early CannotWrite) ⊎ (end ≡ Early NoMemory)

-- ---- the input

-- a step of the run asks for more of the input than there is
abbrev pub AsksForMore : Scenario → Type 0
AsksForMore sc = (n : ℕ) × AsksAt sc n

-- it is as it was given, and a run with an empty one that may wait for more never asks for more before the step that it
-- ends at; or the run asks for more, and it is all of standard input
abbrev pub HasInputOf : Bool → Option (List ℕ) → Option (List ℕ) → Scenario → ℕ → Scenario → Type 0
HasInputOf waits left rest sc n done =
    ((done ≡ sc) × Consumes left rest [] × (waits ≡ true → (state_at sc n).end_seen ≡ false))
    ⊎ ((waits ≡ true) × AsksForMore sc × (input : List ℕ) × HasStream left input × (done ≡ with_input sc input))

-- the run ends early: its output can't be written, or memory runs out, or standard input, of which it asks for more,
-- can't be read
abbrev pub Cuts : Bool → Scenario → Option (List ℕ) → Held → Held → ExecEnd → Type 0
Cuts waits sc left old new end =
    (IsFault end × CutsOutput sc old new)
    ⊎ ((waits ≡ true) × AsksForMore sc × (input : List ℕ) × HasStream left input × IsFault end
    × CutsOutput (with_input sc input) old new)
    ⊎ ((waits ≡ true) × AsksForMore sc × (why : End) × (end ≡ Early why) × NoStream left why × CutsOutput sc old new)

-- ---- a run

-- the run of a scenario is made up to a step that it ends at: its output is written, and then the report of that
-- step, and its calls that aren't known are counted; or it ends early, and no report is written
abbrev pub Executes : Plan → Scenario → Pipes → Pipes → ExecEnd → List UnknownCall → Type 0
Executes plan sc old new end unknown =
    ((done : Scenario) × (n : ℕ) × (ended : Ended) × (line : List ℕ) × HasInputOf plan.waits old.left new.left sc n done
    × EndsAt done plan.limit n ended × Gives old.held new.held (written_at done 1 n) (written_at done 2 n ++ line)
    × Finishes plan (at_step done n) ended line old.logged new.logged end × (unknown ≡ calls_at done n))
    ⊎ (Cuts plan.waits sc old.left old.held new.held end × Appends old.logged new.logged [])

-- an execution has come to a run's end, or waits: what was written is the output up to there
pub record HasRun
    (waits : Bool) (limit : ℕ) (sc : Scenario) (old new : Held) (e : Execution) (ended : Option Ended) : Type 0 where
  pub at : IsAt e sc
  pub comes : ComesTo sc waits limit (step_of e) ended
  pub unseen : waits ≡ true → (state_at sc (step_of e)).end_seen ≡ false
  pub output : Gives old new (written_at sc 1 (step_of e)) (written_at sc 2 (step_of e))

-- one that goes on has come to a run's end: what was written is the output since
abbrev pub HasRest : ℕ → Scenario → ℕ → Held → Held → Execution → Ended → Type 0
HasRest limit sc from old new e ended =
    IsAt e sc × EndsAt sc limit (step_of e) ended × Wrote sc from (step_of e) old new

-- and one with its input has, whose step is chosen
pub record HasRunAll
    (waits : Bool) (limit : ℕ) (sc last : Scenario) (left rest : Option (List ℕ)) (old new : Held) (e : Execution)
    (ended : Ended) : Type 0 where
  pub done : Scenario
  pub chosen : last ≡ at_step done (step_of e)
  pub input : HasInputOf waits left rest sc (step_of e) done
  pub at : IsAt e last
  pub ends : EndsAt done limit (step_of e) ended
  pub output : Gives old new (written_at done 1 (step_of e)) (written_at done 2 (step_of e))
  pub marks : last.marks ≡ []

-- ---- all of it

-- nothing was read or written, and no place for the report was opened
abbrev pub IsUntouched : Pipes → Pipes → Type 0
IsUntouched old new =
    Consumes old.left new.left [] × Gives old.held new.held [] [] × Appends old.logged new.logged []
    × (new.opened ≡ None)

-- a list of leak kinds is none
abbrev pub NoKinds : Bor (List ℕ) → ExecEnd → Type 0
NoKinds text end = (leak_kinds text.now ≡ None) × (end ≡ BadKinds text)

-- the file of the report is one of those that are read
abbrev pub is_path : List ℕ → Option (List ℕ) → Bool
is_path path None = false
is_path path (Some other) = bytes_eq path other

abbrev pub is_read : Order → List ℕ → Bool
is_read order path =
    bytes_eq path order.file.now || (is_path path (input_path order) || is_path path (rules_path order))

abbrev pub InPlace : Order → Option (Bor (List ℕ)) → ExecEnd → Type 0
InPlace order None end = ⊥
InPlace order (Some path) end = (is_read order path.now ≡ true) × (end ≡ ReportInPlace path)

-- is no file of an input named?
abbrev pub waits_for : Order → Bool
waits_for order = is_none (input_path order)

abbrev pub codes_of : ExecArgs → ChosenStatuses
codes_of asked = record { errors = asked.error_exitcode; idle = asked.idle_exitcode }

-- is a heap whose errors can't be found a failure? With an exit status for errors, unless that is taken back
abbrev pub requires_heap : ExecArgs → Bool
requires_heap asked = asked.require_heap || (is_some asked.error_exitcode && not asked.no_require_heap)

-- the names between commas of functions that aren't a heap's
abbrev pub names_in : Option (Bor (List ℕ)) → List ℕ
names_in None = []
names_in (Some names) = names.now

abbrev pub plan_for : Order → ExecArgs → LeakKinds → List SymbolContent → Plan
plan_for order asked count symbols = record {
  waits = waits_for order;
  codes = codes_of asked;
  count = count;
  quiet = asked.quiet;
  requires_heap = requires_heap asked;
  end_line = asked.end_line;
  limit = asked.memory_limit;
  known = known_of symbols (names_in asked.not_heap);
  place = asked.report;
}

-- what a place is while it is open: its path, and what its file has been given
abbrev pub Opening : Type 1
Opening = Option (List ℕ) → Option (List ℕ) → Type 0

-- with a scenario: the place of the report is opened, and then the run made
abbrev pub WithScenario : Opening → Plan → Scenario → Pipes → Pipes → ExecEnd → List UnknownCall → Type 0
WithScenario opens plan sc old new end unknown =
    ((end ≡ NoReport plan.place) × IsUntouched old new)
    ⊎ ((logged : Option (List ℕ)) × opens (path_of plan.place) logged × Appends old.logged logged []
    × Executes plan sc (pipes old.left old.held logged (Some (path_of plan.place))) new end unknown)

-- what the options choose, or why they choose nothing: they are judged in this order
pub record IsChoice (asked : ExecArgs) (kinds : LeakKinds) (choices : Choices) : Type 0 where
  pub show : leak_kinds asked.show.now ≡ Some kinds
  pub count : leak_kinds asked.count.now ≡ Some choices.count
  pub codes : choices.codes ≡ codes_of asked
  pub quiet : choices.quiet ≡ asked.quiet
  pub requires_heap : choices.requires_heap ≡ requires_heap asked
  pub end_line : choices.end_line ≡ asked.end_line
  pub limit : choices.limit ≡ asked.memory_limit

abbrev pub NoChoice : Order → ExecArgs → ExecEnd → Type 0
NoChoice order asked end =
    NoKinds asked.show end
    ⊎ ((show : LeakKinds) × (leak_kinds asked.show.now ≡ Some show)
    × (NoKinds asked.count end
    ⊎ ((count : LeakKinds) × (leak_kinds asked.count.now ≡ Some count) × InPlace order asked.report end)))

-- the program of a file, and the functions and labels that the file defines
abbrev pub HasProgram : Giving → ProfileArgs → List ℕ → Image → List SymbolContent → Type 0
HasProgram gives words path image symbols =
    (profile : Profile) × (front : List ℕ) × IsProfileNamed words profile × IsFront gives path most_judged front
    × IsImageFor profile front image × (symbols ≡ defined_in front)

-- with a program: the other files are read, and the edits made; the names are those of functions whose blocks aren't
-- known
abbrev pub WithImage :
    Giving → Opening → Order → ExecArgs → LeakKinds → LeakKinds → Image → List SymbolContent → Pipes → Pipes → ExecEnd
    → List ℕ → List UnknownCall → Type 0
WithImage gives opens order asked show count image symbols old new end names unknown =
    (MakesNone gives order asked show image end × IsUntouched old new)
    ⊎ ((sc : Scenario) × Makes gives order asked show image sc
    × (names ≡ unknown_names symbols (names_in asked.not_heap))
    × WithScenario opens (plan_for order asked count symbols) sc old new end unknown)

abbrev pub WithProgram :
    Giving → Opening → Order → ExecArgs → LeakKinds → LeakKinds → Pipes → Pipes → ExecEnd → List ℕ
    → List UnknownCall → Type 0
WithProgram gives opens order asked show count old new end names unknown =
    (image : Image) × (symbols : List SymbolContent) × HasProgram gives order.profile order.file.now image symbols
    × WithImage gives opens order asked show count image symbols old new end names unknown

-- with options that are none that end it: the program's file is read for the instruction set that the order names
abbrev pub WithKinds :
    Giving → Opening → Order → ExecArgs → LeakKinds → LeakKinds → Pipes → Pipes → ExecEnd → List ℕ
    → List UnknownCall → Type 0
WithKinds gives opens order asked show count old new end names unknown =
    ((why : End) × (end ≡ Early why) × NoImage gives order.profile order.file.now why × IsUntouched old new)
    ⊎ ((end ≡ Early NoMemory) × IsUntouched old new)
    ⊎ WithProgram gives opens order asked show count old new end names unknown

-- an order for `exec` was carried out
abbrev pub Executed : Giving → Opening → Order → ExecArgs → Pipes → Pipes → ExecEnd → List ℕ
    → List UnknownCall → Type 0
Executed gives opens order asked old new end names unknown =
    (NoChoice order asked end × IsUntouched old new)
    ⊎ ((show : LeakKinds) × (count : LeakKinds) × (leak_kinds asked.show.now ≡ Some show)
    × (leak_kinds asked.count.now ≡ Some count) × WithKinds gives opens order asked show count old new end names
    unknown)

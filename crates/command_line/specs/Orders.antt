-- The command line, in `clap`'s own terms (`clap`'s specs: what a line of arguments gives for each argument), and the
-- order that it gives.
use denote.Ref.{Bor}
use Rattle.std.specs.Prelude.{◌≡◌, ℕ, pos, List, [], ◌∷◌, Bool, true, false, Option, Some, None, codes}
use Rattle.std.specs.Prelude.{option_map, IsSomeAnd}
use Rattle.std.specs.Str.{bytes_eq}
use Rattle.std.specs.Str.Parse.{digits_value, without_leading_plus}
use Rattle.clap.specs.Words.{App, Row, Rule, Text, first_of, new_app, new_rule, one_of, subcommand_of, with_rule}
use Rattle.clap.specs.Words.{with_subcommand}
use Rattle.clap.specs.Simple.{on_top}
use Rattle.clap.specs.declared.builder.ValueParser.TheVariants.{Signed}
use Rattle.clap.specs.declared.builder.action.ArgAction.TheVariants.{SetTrue}
use Rattle.command_line.specs.declared.order.Order.{Order}
use Rattle.command_line.specs.declared.order.ProfileArgs.{ProfileArgs}
use Rattle.command_line.specs.declared.order.SweepArgs.{SweepArgs}
use Rattle.command_line.specs.declared.order.Task.{Task}
use Rattle.command_line.specs.declared.order.Task.TheVariants.{Do, Sweep, Exec}
use Rattle.command_line.specs.declared.order.Action.{Action}
use Rattle.command_line.specs.declared.order.CertifyArgs.{CertifyArgs}
use Rattle.command_line.specs.declared.order.Action.TheVariants.{Report, Session, Look, Tries, Certify}
use Rattle.command_line.specs.declared.order.ExecArgs.{ExecArgs}

-- the greatest step of a report (this project's limit)
abbrev pub greatest_step : ℕ
greatest_step = 4194304

-- and the greatest that may be named for a session, a sweep or a verdict
abbrev pub furthest_step : ℕ
furthest_step = 2147483647

-- the file that an option names
abbrev pub input_path : Order → Option Text
input_path order = option_map (λ path. path.now) order.input

abbrev pub rules_path : Order → Option Text
rules_path order = option_map (λ path. path.now) order.suppressions

-- an option with a value, under its long name
abbrev pub option : Text → Rule
option name = record (new_rule name) { long = Some name; value_names = 1 }

-- the program's file, which is required
abbrev pub file_argument : Rule
file_argument = record (new_rule (codes "FILE")) { required = true }

-- an option with a value, and a default for it
abbrev pub default_option : Text → Text → Rule
default_option name default = record (option name) { defaults = default ∷ [] }

-- an option with a number between two others
abbrev pub number_option : Text → ℕ → ℕ → Rule
number_option name least most = record (option name) { parser = Some (Signed (pos least) (pos most)) }

-- `--isa`, of which any text is taken here
abbrev pub isa_option : Rule
isa_option = default_option (codes "isa") (codes "rv32im")

-- `--heap-region` and `--stack-region`, likewise
abbrev pub heap_option : Rule
heap_option = default_option (codes "heap-region") (codes "0x40000000")

abbrev pub stack_option : Rule
stack_option = default_option (codes "stack-region") (codes "0x7f000000..0x80000000")

-- a command, with the options for what its program's file is read for
abbrev pub with_profile : App → App
with_profile app = with_rule (with_rule (with_rule app isa_option) heap_option) stack_option

-- `--most-moved` and `--most-output`, where the usual ones are those that aren't given
abbrev pub with_limits : App → App
with_limits app = with_rule (with_rule app (option (codes "most-moved"))) (option (codes "most-output"))

-- a command on a program with an input: its file and options
abbrev pub input_command : Text → App
input_command name =
    with_profile (with_rule (with_rule (new_app name) file_argument) (option (codes "input")))

-- and one with suppressions too
abbrev pub program_command : Text → App
program_command name = with_rule (input_command name) (option (codes "supp"))

-- `--step`, from 0 to 4,194,304, and 1,048,576 by default
abbrev pub step_option : Rule
step_option =
    record (option (codes "step")) {
      defaults = codes "1048576" ∷ [];
      parser = Some (Signed (pos 0) (pos greatest_step));
    }

-- `run`
abbrev pub run_command : App
run_command = with_rule (program_command (codes "run")) step_option

-- the command line with only `run`
abbrev pub with_run : App
with_run =
    with_subcommand (on_top (λ top. record top { has_version = true; subcommand_required = true })
    (new_app (codes "replaycheck"))) run_command.top

-- with `run` and `session`
abbrev pub with_session : App
with_session = with_subcommand with_run (program_command (codes "session")).top

-- a command for a session that can be looked at, with `--limit`, the greatest step that may be chosen in it
abbrev pub look_command : Text → App
look_command name =
    with_rule (with_limits (program_command name)) (number_option (codes "limit") 1 furthest_step)

-- with `look`
abbrev pub with_look : App
with_look = with_subcommand with_session (look_command (codes "look")).top

-- with `tries`
abbrev pub with_tries : App
with_tries = with_subcommand with_look (look_command (codes "tries")).top

-- an option with a number that has a value where it isn't given
abbrev pub default_number : Text → ℕ → ℕ → Text → Rule
default_number name least most default = record (number_option name least most) { defaults = default ∷ [] }

-- a flag
abbrev pub output_flag : Rule
output_flag = record (new_rule (codes "with-output")) { long = Some (codes "with-output"); action = Some SetTrue }

abbrev pub sides_flag : Rule
sides_flag = record (new_rule (codes "sides")) { long = Some (codes "sides"); action = Some SetTrue }

-- `sweep`, with the bytes that it edits, with the words, with the steps at which faults strike, with its flags, and
-- whole
abbrev pub sweep_of_bytes : App
sweep_of_bytes =
    with_rule (with_rule (with_rule (with_limits (program_command (codes "sweep")))
    (default_number (codes "step") 0 furthest_step (codes "1048576")))
    (option (codes "bytes")))
    (default_option (codes "values") (codes "all"))

abbrev pub sweep_of_words : App
sweep_of_words =
    with_rule (with_rule sweep_of_bytes (option (codes "words")))
    (default_option (codes "words-values") (codes "skip"))

abbrev pub sweep_of_steps : App
sweep_of_steps =
    with_rule (with_rule (with_rule (with_rule sweep_of_words (option (codes "at"))) (option (codes "faults")))
    (option (codes "code-range"))) (option (codes "pairs"))

abbrev pub sweep_of_flags : App
sweep_of_flags = with_rule (with_rule sweep_of_steps output_flag) sides_flag

abbrev pub sweep_command : App
sweep_command = with_rule sweep_of_flags (default_option (codes "part") (codes "1/1"))

-- with `sweep`
abbrev pub with_sweep : App
with_sweep = with_subcommand with_tries sweep_command.top

-- `certify`, which takes no suppressions: a suppressed error counts as any other. Its `--step` has no default, as it
-- matters whether a step was given
abbrev pub certify_of_step : App
certify_of_step =
    with_rule (with_limits (input_command (codes "certify"))) (number_option (codes "step") 0 furthest_step)

-- with the bytes that may be any
abbrev pub certify_command : App
certify_command =
    with_rule (with_rule (with_rule certify_of_step (option (codes "any"))) (option (codes "any-memory")))
    (option (codes "reveal"))

-- with `certify`
abbrev pub with_certify : App
with_certify = with_subcommand with_sweep certify_command.top

-- `--step` of `exec`, up to the greatest number of 32 bits
abbrev pub greatest_run : ℕ
greatest_run = 4294967295

-- a flag that also has a short name, q
abbrev pub quiet_flag : Rule
quiet_flag =
    record (new_rule (codes "quiet")) { long = Some (codes "quiet"); short = Some 113; action = Some SetTrue }

-- `exec` with as much as Linux moves by one call (read(2) and write(2): at most 0x7ffff000 bytes), and no limit of
-- output
abbrev pub exec_limits : App
exec_limits =
    with_rule (with_rule (program_command (codes "exec")) (default_option (codes "most-moved") (codes "2147479552")))
    (default_option (codes "most-output") (codes "none"))

-- by its options for the run, for the report, and for the exit status
abbrev pub exec_runs : App
exec_runs =
    with_rule (with_rule (with_rule (with_rule (with_rule exec_limits
    (default_number (codes "step") 0 greatest_run (codes "1000000000"))) (option (codes "patch")))
    (default_number (codes "redzone") 0 4096 (codes "16")))
    (default_number (codes "queue") 0 1000000000 (codes "20000000")))
    (default_number (codes "memory-limit") 0 1048576 (codes "1024"))

abbrev pub exec_reports : App
exec_reports =
    with_rule (with_rule (with_rule (with_rule exec_runs (option (codes "report")))
    (default_number (codes "callers") 1 24 (codes "12")))
    (default_option (codes "show") (codes "definite,possible"))) quiet_flag

-- a flag under its long name
abbrev pub flag : Text → Rule
flag name = record (new_rule name) { long = Some name; action = Some SetTrue }

abbrev pub exec_statuses : App
exec_statuses =
    with_rule (with_rule (with_rule exec_reports (number_option (codes "error-exitcode") 1 255))
    (default_option (codes "count") (codes "definite,possible"))) (number_option (codes "idle-exitcode") 0 255)

-- and by those for the heap, and for a line of the program that isn't ended
abbrev pub exec_command : App
exec_command =
    with_rule (with_rule (with_rule (with_rule exec_statuses (flag (codes "require-heap")))
    (flag (codes "no-require-heap"))) (option (codes "not-heap"))) (flag (codes "end-line"))

-- the command line: `run`, `session`, `look`, `tries`, `sweep`, `certify` and `exec`
abbrev pub command_line : App
command_line = with_subcommand with_certify exec_command.top

-- a number is the one that an option was given, in decimal digits
abbrev pub IsNumberOf : Text → List Row → ℕ → Type 0
IsNumberOf name rows n = IsSomeAnd (one_of name rows) (λ text. n ≡ digits_value 10 (without_leading_plus text))

-- and if it was given one
abbrev pub IsNumberIn : Text → List Row → Option ℕ → Type 0
IsNumberIn name rows None = first_of name rows ≡ None
IsNumberIn name rows (Some n) = IsNumberOf name rows n

-- that of `--step`
abbrev pub IsStepOf : List Row → ℕ → Type 0
IsStepOf rows n = IsNumberOf (codes "step") rows n

-- a flag was given, or it wasn't
pub record IsFlagOf (name : Text) (rows : List Row) (flag : Bool) : Type 0 where
  pub given : one_of name rows ≡ Some (codes "true") → flag ≡ true
  pub absent : one_of name rows ≡ Some (codes "false") → flag ≡ false

-- a text that an option was given, and one that it has in any case
abbrev pub text_of : Option (Bor Text) → Option Text
text_of given = option_map (λ text. text.now) given

-- the arguments of `sweep`, from what was found
pub record IsSweepOf (rows : List Row) (asked : SweepArgs) : Type 0 where
  pub step : IsStepOf rows asked.step
  pub bytes : text_of asked.bytes ≡ first_of (codes "bytes") rows
  pub byte_values : Some asked.byte_values.now ≡ first_of (codes "values") rows
  pub words : text_of asked.words ≡ first_of (codes "words") rows
  pub word_values : Some asked.word_values.now ≡ first_of (codes "words-values") rows
  pub at : text_of asked.at ≡ first_of (codes "at") rows
  pub faults : text_of asked.faults ≡ first_of (codes "faults") rows
  pub code : text_of asked.code ≡ first_of (codes "code-range") rows
  pub pairs : text_of asked.pairs ≡ first_of (codes "pairs") rows
  pub part : Some asked.part.now ≡ first_of (codes "part") rows
  pub with_output : IsFlagOf (codes "with-output") rows asked.with_output
  pub with_sides : IsFlagOf (codes "sides") rows asked.with_sides

-- the arguments of what was found for those of `exec`
pub record IsExecOf (rows : List Row) (asked : ExecArgs) : Type 0 where
  pub step : IsStepOf rows asked.step
  pub patches : text_of asked.patches ≡ first_of (codes "patch") rows
  pub report : text_of asked.report ≡ first_of (codes "report") rows
  pub error_exitcode : IsNumberIn (codes "error-exitcode") rows asked.error_exitcode
  pub idle_exitcode : IsNumberIn (codes "idle-exitcode") rows asked.idle_exitcode
  pub callers : IsNumberOf (codes "callers") rows asked.callers
  pub redzone : IsNumberOf (codes "redzone") rows asked.redzone
  pub queue : IsNumberOf (codes "queue") rows asked.queue
  pub show : Some asked.show.now ≡ first_of (codes "show") rows
  pub count : Some asked.count.now ≡ first_of (codes "count") rows
  pub quiet : IsFlagOf (codes "quiet") rows asked.quiet
  pub require_heap : IsFlagOf (codes "require-heap") rows asked.require_heap
  pub no_require_heap : IsFlagOf (codes "no-require-heap") rows asked.no_require_heap
  pub not_heap : text_of asked.not_heap ≡ first_of (codes "not-heap") rows
  pub memory_limit : IsNumberOf (codes "memory-limit") rows asked.memory_limit
  pub end_line : IsFlagOf (codes "end-line") rows asked.end_line

-- the arguments of `certify`, from what was found
pub record IsCertifyOf (rows : List Row) (asked : CertifyArgs) : Type 0 where
  pub step : IsNumberIn (codes "step") rows asked.step
  pub any : text_of asked.any ≡ first_of (codes "any") rows
  pub any_memory : text_of asked.any_memory ≡ first_of (codes "any-memory") rows
  pub reveal : text_of asked.reveal ≡ first_of (codes "reveal") rows

-- the action of a name, of what was found for its arguments
abbrev pub IsActionOf : Text → List Row → Action → Type 0
IsActionOf name rows (Report n) = (bytes_eq name (codes "run") ≡ true) × IsStepOf rows n
IsActionOf name rows (Certify asked) =
    (bytes_eq name (codes "certify") ≡ true) × IsCertifyOf rows asked
IsActionOf name rows (Look asked) = (bytes_eq name (codes "look") ≡ true) × IsNumberIn (codes "limit") rows asked
IsActionOf name rows (Tries asked) = (bytes_eq name (codes "tries") ≡ true) × IsNumberIn (codes "limit") rows asked
IsActionOf name rows Session =
    (bytes_eq name (codes "run") ≡ false) × (bytes_eq name (codes "sweep") ≡ false)
    × (bytes_eq name (codes "look") ≡ false) × (bytes_eq name (codes "tries") ≡ false)
    × (bytes_eq name (codes "certify") ≡ false) × (bytes_eq name (codes "exec") ≡ false)

-- the command of a name, of what was found for its arguments
abbrev pub IsTaskOf : Text → List Row → Task → Type 0
IsTaskOf name rows (Do action) = IsActionOf name rows action
IsTaskOf name rows (Sweep words) = (bytes_eq name (codes "sweep") ≡ true) × IsSweepOf rows words
IsTaskOf name rows (Exec asked) = (bytes_eq name (codes "exec") ≡ true) × IsExecOf rows asked

-- what a file is read for, of what was found
pub record IsProfileOf (rows : List Row) (asked : ProfileArgs) : Type 0 where
  pub isa : Some asked.isa.now ≡ first_of (codes "isa") rows
  pub heap : Some asked.heap.now ≡ first_of (codes "heap-region") rows
  pub stack : Some asked.stack.now ≡ first_of (codes "stack-region") rows
  pub most_moved : text_of asked.most_moved ≡ first_of (codes "most-moved") rows
  pub most_output : text_of asked.most_output ≡ first_of (codes "most-output") rows

-- the order of what was found for a command's arguments
pub record IsOrderOf (name : Text) (rows : List Row) (order : Order) : Type 0 where
  pub file : Some order.file.now ≡ first_of (codes "FILE") rows
  pub input : input_path order ≡ first_of (codes "input") rows
  pub rules : rules_path order ≡ first_of (codes "supp") rows
  pub profile : IsProfileOf rows order.profile
  pub task : IsTaskOf name rows order.task

-- the order of a command line's arguments: of what was found for the command in them
abbrev pub IsOrderFor : List Text → Order → Type 0
IsOrderFor words order = IsSomeAnd (subcommand_of command_line words) (λ entered. IsOrderOf entered.0 entered.1 order)

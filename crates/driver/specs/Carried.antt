-- The outcome of a command on a program: its files are read in order, each judged before the next, and then a report is
-- printed or lines are answered.
use Rattle.std.specs.Prelude.{ℕ, ◌≡◌, ◌+◌, ◌<◌, ◌≤◌, ◌⊎◌, List, [], Option, Some, None, length, min, take, unwrap_or}
use Rattle.std.specs.Io.KnownBytes.{Appends, Consumes}
use Rattle.command_line.specs.Orders.{input_path, rules_path}
use Rattle.program_files.specs.Files.{Giving, HasImage, HasInput, HasRules, NoImage, NoInput, NoRules, Streams}
use Rattle.program_files.specs.Files.{Untouched}
use Rattle.command_line.specs.declared.order.Order.{Order}
use Rattle.guest_elf.specs.declared.image.Image.{Image as ProgramImage}
use Rattle.line_protocol.specs.Answers.{Relation}
use Rattle.line_protocol.specs.Served.{ServedAll, ServedRead, StoppedBy}
use Rattle.scenario.specs.Limits.{furthest_step, longest_input, most_steps}
use Rattle.replay_session.specs.Replies.{Answers}
use Rattle.replay_session.specs.Stages.{fresh, opened}
use Rattle.replay_session.specs.Turns.{opening}
use Rattle.line_protocol.specs.declared.fault.ServeFault.TheVariants.{ReadFailed, WriteFailed}
use Rattle.looks.specs.Views.{ViewsLines}
use Rattle.tries.specs.Tries.{TriesLines, untried}
use Rattle.driver.specs.AnyCertified.{CertifiesBy}
use Rattle.driver.specs.Once.{IsReportOnce, WritesReport, StopsBy}
use Rattle.command_line.specs.declared.order.Action.{Action}
use Rattle.command_line.specs.declared.order.Action.TheVariants.{Report, Session, Look, Tries, Certify}
use Rattle.exit_status.specs.declared.ends.End.{End}
use Rattle.exit_status.specs.declared.ends.End.TheVariants.{Done, CannotRead, CannotReadInput, CannotWrite, Image}
use Rattle.exit_status.specs.declared.ends.End.TheVariants.{Suppressions, SuppressionsTooLong, InputTooLarge, NoMemory}
use Rattle.driver.specs.declared.reporting.RunFault.TheVariants.{WriteFailed as ReportCut}
use Rattle.suppressions.specs.Rules.{Rule}
use Rattle.suppressions.specs.Texts.{faults, rules, IsLeast}
use Rattle.suppressions.specs.declared.fault.SuppFault.TheVariants as Supp

-- a report was printed; or a front of one, after which a write failed; or nothing, as memory ran out
abbrev pub Reports : (List ℕ → Type 0) → Option (List ℕ) → Option (List ℕ) → End → Type 0
Reports is_report old new Done = WritesReport is_report old new
Reports is_report old new CannotWrite = (sent : ℕ) × StopsBy (ReportCut sent) is_report old new
Reports is_report old new NoMemory = Appends old new []
Reports is_report old new end = ⊥

-- lines were answered to their end; or up to where a read failed or found no end, or a write failed; or not at all, as
-- memory ran out
abbrev pub Serves : Relation → Streams → Streams → End → Type 0
Serves AreReplies old new Done =
    ServedAll AreReplies old.left old.held new.held × ServedRead AreReplies old.left new.left old.held new.held
Serves AreReplies old new CannotReadInput =
    (replies : ℕ) × (bytes : ℕ) × StoppedBy (ReadFailed replies bytes) AreReplies old.left new.left old.held new.held
Serves AreReplies old new CannotWrite =
    (replies : ℕ) × (bytes : ℕ) × StoppedBy (WriteFailed replies bytes) AreReplies old.left new.left old.held new.held
Serves AreReplies old new NoMemory = Untouched old new
Serves AreReplies old new end = ⊥

-- the greatest step of a session: the one that was asked for, if one was
abbrev pub limit_asked : Option ℕ → ℕ
limit_asked asked = min (unwrap_or asked most_steps) furthest_step

-- what an order asks for was done with a program, its suppressions and its input: the report of a step, a session, one
-- that can be looked at, one in which inputs can be tried too, or the verdict up to a step, which doesn't depend on
-- suppressions
abbrev pub Does : Action → ProgramImage → List Rule → List ℕ → Streams → Streams → End → Type 0
Does (Report step) image list input old new end =
    Consumes old.left new.left [] × Reports (IsReportOnce image input list step) old.held new.held end
Does Session image list input old new end = Serves (Answers (fresh (opening image input list))) old new end
Does (Look asked) image list input old new end =
    Serves (ViewsLines (opened (limit_asked asked) image input list)) old new end
Does (Tries asked) image list input old new end =
    Serves (TriesLines (untried (opened (limit_asked asked) image input list))) old new end
Does (Certify args) image list input old new end =
    Consumes old.left new.left [] × CertifiesBy image input args old.held new.held end

-- with the program and its suppressions: the input is read, and what the order asks for is done, or the input ends the
-- program
abbrev pub CarriedWithRules : Giving → Order → Action → ProgramImage → List Rule → Streams → Streams → End → Type 0
CarriedWithRules gives order action image list old new end =
    (NoInput gives (input_path order) end × Untouched old new)
    ⊎ ((input : List ℕ) × HasInput gives (input_path order) input × Does action image list input old new end)

-- with the program: the suppressions are read, and then the input, or the suppressions end the program
abbrev pub CarriedWithImage : Giving → Order → Action → ProgramImage → Streams → Streams → End → Type 0
CarriedWithImage gives order action image old new end =
    (NoRules gives (rules_path order) end × Untouched old new)
    ⊎ ((list : List Rule) × HasRules gives (rules_path order) list
    × CarriedWithRules gives order action image list old new end)

-- an order for the report of a step, or for a session, was carried out: the program is read for the instruction set
-- that the order names, and then its suppressions and its input, or that name or the program's file ends the program
abbrev pub Carried : Giving → Order → Action → Streams → Streams → End → Type 0
Carried gives order action old new end =
    (NoImage gives order.profile order.file.now end × Untouched old new)
    ⊎ ((image : ProgramImage) × HasImage gives order.profile order.file.now image
    × CarriedWithImage gives order action image old new end)

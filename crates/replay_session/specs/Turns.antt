-- The turn of a line: the scenario that it meets, and the number of lines given before it. Which command a line is, and
-- what it leaves.
use Rattle.std.specs.Prelude.{ℕ, ◌+◌, nat_le, nat_lt, if◌then◌else◌, List, length, Option, Some, None, option_map}
use Rattle.std.specs.Prelude.{Result, Ok, Err}
use Rattle.guest_elf.specs.declared.image.Image.{Image}
use Rattle.line_protocol.specs.Lines.{longest_line}
use Rattle.suppressions.specs.Rules.{Rule}
use Rattle.scenario.specs.Edits.{row}
use Rattle.scenario.specs.Limits.{most_steps}
use Rattle.scenario.specs.Scenario.{Scenario, at_step, begun_within, limit_of}
use Rattle.commands.specs.Commands.{parsed}
use Rattle.commands.specs.Faults.{fault_of}
use Rattle.commands.specs.declared.command.Command.{Command}
use Rattle.commands.specs.declared.command.Command.TheVariants.{Goto, Report, Worked, Edit}
use Rattle.commands.specs.declared.fault.Fault.{Fault}
use Rattle.commands.specs.declared.fault.Fault.TheVariants.{StepLimit, LineTooLong, TooManyCommands}

-- a scenario, and the number of lines given
pub record Turn : Type 0 where
  pub scenario : Scenario
  pub lines : ℕ

-- the number of lines that are answered
abbrev pub most_lines : ℕ
most_lines = 100000

-- why a command is rejected, if it is: a step above the limit, and an edit as its row says
abbrev pub command_refusal : Scenario → Command → Option Fault
command_refusal sc (Goto n) = if nat_lt (limit_of sc) n then Some StepLimit else None
command_refusal sc (Edit edit) = option_map fault_of (row sc edit).refusal
command_refusal sc Report = None
command_refusal sc Worked = None

-- a command, or why it is rejected
abbrev pub accepted_by : Option Fault → Command → Result Command Fault
accepted_by None command = Ok command
accepted_by (Some fault) command = Err fault

abbrev pub if_command : Scenario → Result Command Fault → Result Command Fault
if_command sc (Err fault) = Err fault
if_command sc (Ok command) = accepted_by (command_refusal sc command) command

-- why a line is rejected before it is read, if it is: too many lines, or a line that is too long
unfoldable pub line_refusal : Turn → List ℕ → Option Fault
line_refusal turn line =
    if nat_le most_lines turn.lines then Some TooManyCommands
    else if nat_lt longest_line (length line) then Some LineTooLong
    else None

abbrev pub unless_refused : Option Fault → Result Command Fault → Result Command Fault
unless_refused None outcome = outcome
unless_refused (Some fault) outcome = Err fault

-- what a line comes to that is read as this command, or as none: the command, or why the line is rejected. The line is
-- judged first, then how it is read, and then the command
abbrev pub accepted_as : Turn → List ℕ → Result Command Fault → Result Command Fault
accepted_as turn line read = unless_refused (line_refusal turn line) (if_command turn.scenario read)

-- the same of a line that is read as a session's
abbrev pub accepted : Turn → List ℕ → Result Command Fault
accepted turn line = accepted_as turn line (parsed line)

-- the number of lines after another line; it stops at the greatest number
abbrev pub counted : ℕ → ℕ
counted lines = if nat_le most_lines lines then lines else lines + 1

-- what a command changes
abbrev pub changed : Scenario → Command → Scenario
changed sc (Goto n) = at_step sc n
changed sc (Edit edit) = (row sc edit).after
changed sc Report = sc
changed sc Worked = sc

abbrev pub after : Scenario → Result Command Fault → Scenario
after sc (Ok command) = changed sc command
after sc (Err fault) = sc

-- a scenario, after another line
abbrev pub passed : Turn → Scenario → Turn
passed turn sc = record { scenario = sc; lines = counted turn.lines }

-- the turn after a line that is accepted as a command or rejected: a rejected line changes only the number of lines
abbrev pub applied_as : Turn → Result Command Fault → Turn
applied_as turn outcome = passed turn (after turn.scenario outcome)

abbrev pub applied : Turn → List ℕ → Turn
applied turn line = applied_as turn (accepted turn line)

-- what a session of a program, an input and suppressions begins with, by the greatest step that may be chosen, and with
-- the usual one
abbrev pub opening_within : ℕ → Image → List ℕ → List Rule → Turn
opening_within limit image input rules = record { scenario = begun_within limit image input rules; lines = 0 }

abbrev pub opening : Image → List ℕ → List Rule → Turn
opening image input rules = opening_within most_steps image input rules

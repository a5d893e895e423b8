-- The faults of a line: their numbers, and those of an edit.
use Rattle.std.specs.Prelude.{ℕ}
use Rattle.commands.specs.declared.refusal.Refusal.{Refusal}
use Rattle.commands.specs.declared.refusal.Refusal.TheVariants as Edit
use Rattle.commands.specs.declared.fault.Fault.{Fault}
use Rattle.commands.specs.declared.fault.Fault.TheVariants.{Memory, BadCommand, OutsideInput, NotPatchable}
use Rattle.commands.specs.declared.fault.Fault.TheVariants.{StepLimit, BadRange, NoSuchMark, NoSuchSuppression}
use Rattle.commands.specs.declared.fault.Fault.TheVariants.{BadOption, TooManyMarks, LineTooLong, TooManyCommands}
use Rattle.commands.specs.declared.fault.Fault.TheVariants.{BadSuppression, InputTooLarge}

abbrev pub number_of : Fault → ℕ
number_of Memory = 1
number_of BadCommand = 2
number_of OutsideInput = 3
number_of NotPatchable = 4
number_of StepLimit = 5
number_of BadRange = 6
number_of NoSuchMark = 7
number_of NoSuchSuppression = 8
number_of BadOption = 9
number_of TooManyMarks = 10
number_of LineTooLong = 11
number_of TooManyCommands = 12
number_of BadSuppression = 13
number_of InputTooLarge = 14

-- the fault of a line that asks for a rejected edit
abbrev pub fault_of : Refusal → Fault
fault_of Edit.OutsideInput = OutsideInput
fault_of Edit.InputTooLarge = InputTooLarge
fault_of Edit.NotPatchable = NotPatchable
fault_of Edit.NoHalves = BadCommand
fault_of Edit.StepLimit = StepLimit
fault_of Edit.BadRange = BadRange
fault_of Edit.TooManyMarks = TooManyMarks
fault_of Edit.NoSuchMark = NoSuchMark
fault_of Edit.NoSuchSuppression = NoSuchSuppression
fault_of Edit.BadOption = BadOption

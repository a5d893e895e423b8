-- A line of a session makes no alteration but of a range.
use Rattle.std.specs.Prelude.{ℕ, List, IfOk}
use Rattle.run_values.specs.Alterations.{IsMake}
use Rattle.commands.specs.Commands.{parsed}
use Rattle.commands.specs.declared.command.Command.{Command}
use Rattle.commands.specs.declared.command.Command.TheVariants.{Edit}
use Rattle.commands.specs.declared.edit.Edit.TheVariants.{Mark}

-- a command marks nothing, or makes a range
abbrev pub MakesRange : Command → Type 0
MakesRange (Edit (Mark mark)) = IsMake mark.act
MakesRange _ = Unit {0}

abbrev pub LinesMakeRanges : Type 0
LinesMakeRanges = (line : List ℕ) → IfOk (parsed line) MakesRange

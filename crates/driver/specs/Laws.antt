-- A sweep and a session: the line of a row applies the row's edit.
use Rattle.std.specs.Prelude.{◌≡◌, ℕ, ◌+◌, ◌^◌, ◌<◌, ◌≤◌, false, List, Some, Ok}
use Rattle.scenario.specs.Edits.{IsTaken, row}
use Rattle.commands.specs.Commands.{input_with, patch_half_with, patch_with, taken}
use Rattle.commands.specs.declared.command.Command.TheVariants.{Edit}
use Rattle.looks.specs.Views.{looks, read_as}
use Rattle.scenario.specs.Scenario.{limit_of}
use Rattle.replay_session.specs.Turns.{Turn, accepted, accepted_as, applied, applied_as, most_lines}
use Rattle.sweep_plans.specs.Changes.{edit_of, glitch_edit}
use Rattle.sweeps.specs.Outcomes.{edited}
use Rattle.sweeps.specs.Tables.{change_text, glitch_text}
use Rattle.sweep_plans.specs.declared.change.Change.{Change}
use Rattle.sweep_plans.specs.declared.change.Change.TheVariants.{Byte, Word, Half, Twice}
use Rattle.sweep_plans.specs.declared.change.Glitch.{Glitch}
use Rattle.sweep_plans.specs.declared.change.Glitch.TheVariants.{Skip, Flip, FlipPc, Set, Turn as TurnBits}

-- a change of a byte, a word or a half, whose numbers fit their types; faults at a step are no lines of a session
abbrev pub IsSmall : Change → Type 0
IsSmall (Byte offset byte) = (offset < 2 ^ 32) × (byte < 256)
IsSmall (Word addr word) = (addr < 2 ^ 32) × (word < 2 ^ 32)
IsSmall (Half addr half) = (addr < 2 ^ 32) × (half < 2 ^ 16)
IsSmall _ = ⊥

-- a line is accepted as the command that is a change's edit: `input OFFSET BYTE`, `patch ADDR WORD` or
-- `patch16 ADDR HALF`
abbrev pub IsAcceptedAs : Turn → List ℕ → Change → Type 0
IsAcceptedAs turn line (Byte offset byte) = accepted turn line ≡ taken (input_with (Some offset) (Some byte))
IsAcceptedAs turn line (Word addr word) = accepted turn line ≡ taken (patch_with (Some addr) (Some word))
IsAcceptedAs turn line (Half addr half) = accepted turn line ≡ taken (patch_half_with (Some addr) (Some half))
IsAcceptedAs turn line _ = ⊥

-- and leaves the scenario with that edit
abbrev pub Makes : Turn → List ℕ → Change → Type 0
Makes turn line change =
    IsAcceptedAs turn line change × ((applied turn line).scenario ≡ (row turn.scenario (edit_of change)).after)

-- while lines are answered, the line of a row on a byte, a word or a half applies the row's change, if its edit
-- isn't rejected
abbrev pub RowsAreLines : Type 0
RowsAreLines =
    (turn : Turn) (change : Change) → turn.lines < most_lines → IsSmall change → IsTaken turn.scenario (edit_of change)
    → Makes turn (change_text change) change

-- ---- faults at a step, which are lines of a session whose run can be looked at

-- a glitch whose register is one of x1 to x31, and whose other numbers fit their types
abbrev pub FitsLine : Glitch → Type 0
FitsLine Skip = Unit {0}
FitsLine (Flip r mask) = (1 ≤ r) × (r < 32) × (mask < 2 ^ 32)
FitsLine (FlipPc mask) = mask < 2 ^ 32
FitsLine (Set r value) = (1 ≤ r) × (r < 32) × (value < 2 ^ 32)
FitsLine (TurnBits addr mask) = (addr < 2 ^ 32) × (mask < 2 ^ 32)

-- the turn after a line that doesn't look
abbrev pub given : Turn → List ℕ → Turn
given turn line = applied_as turn (accepted_as turn line (read_as (limit_of turn.scenario) line))

-- a line doesn't look, is accepted as an edit, and leaves the scenario with that edit
abbrev pub Alters : Turn → List ℕ → ℕ → Glitch → Type 0
Alters turn line step glitch =
    (looks turn line ≡ false) ×
    (accepted_as turn line (read_as (limit_of turn.scenario) line) ≡ Ok (Edit (glitch_edit step glitch)))
    × ((given turn line).scenario ≡ (row turn.scenario (glitch_edit step glitch)).after)

-- while lines are answered, the line of a glitch makes it, if its edit isn't rejected
abbrev pub FaultsAreLines : Type 0
FaultsAreLines =
    (turn : Turn) (step : ℕ) (glitch : Glitch) → turn.lines < most_lines → FitsLine glitch
    → IsTaken turn.scenario (glitch_edit step glitch) → Alters turn (glitch_text step glitch) step glitch

-- and two lines, one after the other, make the change of a row that has both: the scenario is that of the row's outcome
abbrev pub PairsAreLines : Type 0
PairsAreLines =
    (turn : Turn) (step later : ℕ) (glitch other : Glitch) → turn.lines + 1 < most_lines → FitsLine glitch
    → FitsLine other → IsTaken turn.scenario (glitch_edit step glitch)
    → IsTaken (row turn.scenario (glitch_edit step glitch)).after (glitch_edit later other)
    → (given (given turn (glitch_text step glitch)) (glitch_text later other)).scenario
    ≡ edited turn.scenario (Twice step glitch later other)

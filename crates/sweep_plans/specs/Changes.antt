-- What a sweep changes, and the edits of a scenario that apply a change.
use Rattle.std.specs.Prelude.{ℕ, ◌+◌, ◌^◌, ◌<◌, ◌≤◌, Option, Some, None}
use Rattle.run_values.specs.declared.alteration.Act.{Act}
use Rattle.run_values.specs.declared.alteration.Act.TheVariants as Acts
use Rattle.commands.specs.declared.edit.Edit.{Edit}
use Rattle.commands.specs.declared.edit.Edit.TheVariants.{Input, Patch, PatchHalf, Mark}
use Rattle.sweep_plans.specs.declared.change.Change.{Change}
use Rattle.sweep_plans.specs.declared.change.Change.TheVariants.{Byte, Word, Half, Once, Twice}
use Rattle.sweep_plans.specs.declared.change.Glitch.{Glitch}
use Rattle.sweep_plans.specs.declared.change.Glitch.TheVariants.{Skip, Flip, FlipPc, Set, Turn}

-- what a glitch does to a machine
abbrev pub act_of : Glitch → Act
act_of Skip = Acts.Skip
act_of (Flip r mask) = Acts.Flip r mask
act_of (FlipPc mask) = Acts.FlipPc mask
act_of (Set r value) = Acts.Set r value 0
act_of (Turn addr mask) = Acts.Turn addr mask

-- its register is one of x0 to x31, and its word ends at the last address or before
abbrev pub IsRight : Glitch → Type 0
IsRight (Flip r mask) = r < 32
IsRight (Set r value) = r < 32
IsRight (Turn addr mask) = addr + 4 ≤ 2 ^ 32
IsRight _ = Unit {0}

-- the edit of a scenario that has a glitch happen just before a step
abbrev pub glitch_edit : ℕ → Glitch → Edit
glitch_edit step glitch = Mark (record { step = step; act = act_of glitch })

-- the edit that applies a change; if there are two, the first
abbrev pub edit_of : Change → Edit
edit_of (Byte offset byte) = Input offset byte
edit_of (Word addr word) = Patch addr word
edit_of (Half addr half) = PatchHalf addr half
edit_of (Once step glitch) = glitch_edit step glitch
edit_of (Twice step glitch later other) = glitch_edit step glitch

-- and the second, if there are two
abbrev pub second_of : Change → Option Edit
second_of (Twice step glitch later other) = Some (glitch_edit later other)
second_of _ = None

-- the glitches of a change are right, and a second one isn't before the first
abbrev pub IsFit : Change → Type 0
IsFit (Once step glitch) = IsRight glitch
IsFit (Twice step glitch later other) = IsRight glitch × IsRight other × (step ≤ later)
IsFit _ = Unit {0}

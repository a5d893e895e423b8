-- What each skip leads to by itself, for steps of a run in a row, and which of their states a machine shows.
use Rattle.std.specs.Prelude.{◌≡◌, ℕ, ◌+◌, ◌-◌, ◌*◌, ◌<◌, ◌≤◌, Bool, true, false, ◌&&◌, if◌then◌else◌, List, []}
use Rattle.std.specs.Prelude.{length, slice_get, Option, Some, None, is_none}
use Rattle.guest_elf.specs.Hooks.{hook_at}
use Rattle.guest_elf.specs.declared.hook.Hook.{Hook}
use Rattle.guest_machine.specs.Alterations.{altered}
use Rattle.guest_machine.specs.Exec.{is_running}
use Rattle.guest_machine.specs.Run.{pre}
use Rattle.guest_machine.specs.Shows.{Shows}
use Rattle.guest_machine.specs.State.{Core, State}
use Rattle.guest_machine.specs.declared.machine.Machine.{Machine}
use Rattle.run_values.specs.declared.alteration.Act.TheVariants.{Skip}
use Rattle.scenario.specs.Scenario.{Scenario}
use Rattle.sweep_plans.specs.declared.request.Range.{Range}
use Rattle.sweeps.specs.Landmarks.{IsHeld, Meets, Outlines}
use Rattle.sweeps.specs.Standing.{is_in_code}
use Rattle.sweeps.specs.declared.lone_skips.LoneSkip.{LoneSkip}
use Rattle.sweeps.specs.declared.lone_skips.LoneSkips.{LoneSkips}

-- the state with the instruction at pc left out
abbrev pub left_out : State → State
left_out s = altered s (record { step = 0; act = Skip })

-- pc, if a fault may strike the next step in some code
abbrev pub struck_pc : List (ℕ × Hook) → Core → Option ℕ
struck_pc hooks core = if is_running core.status && is_none (hook_at hooks core.pc) then Some core.pc else None

-- is there one in this code?
abbrev pub strikes : Option Range → Option ℕ → Bool
strikes code None = false
strikes code (Some pc) = is_in_code code pc

-- what a skip before a state leads to, after a number of steps
abbrev pub IsLone : Bool → Scenario → State → ℕ → LoneSkip → Type 0
IsLone with_output sc s steps row =
    (row.pc ≡ struck_pc sc.setup.hooks s.core)
    × Outlines with_output sc (pre (left_out s) sc.setup [] steps) row.outcome

-- the rows are those of each state that a held machine shows and of those after it, at the step after the chosen one
unfoldable pub AreForeseen : Bool → Scenario → LoneSkips → Type 0
AreForeseen with_output sc skips =
    (i r : ℕ) (held : Machine) (row : LoneSkip) → IsHeld skips.landmarks i held
    → slice_get skips.rows.items r ≡ Some row → 16 * i ≤ r → (s : State) → Shows held s
    → IsLone with_output sc (pre s sc.setup [] (r - 16 * i)) (sc.step + 1 - (skips.landmarks.first + r)) row

-- a held machine shows each state of another, and is one step later; and there are rows up to a step
pub record Joins (skips : LoneSkips) (machine : Machine) (step end : ℕ) : Type 0 where
  pub meets : Meets skips.landmarks machine (step + 1)
  pub rows : end < skips.landmarks.first + length skips.rows.items

-- what is found of a row: its outcome, if a fault strikes there in this code
abbrev pub IsFound : Option Range → LoneSkip → Option (List ℕ) → Type 0
IsFound code row None = strikes code row.pc ≡ false
IsFound code row (Some outcome) = (strikes code row.pc ≡ true) × (outcome ≡ row.outcome)

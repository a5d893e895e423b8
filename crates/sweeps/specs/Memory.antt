-- The fault model `memory`: at a step, each bit of each byte that this or a later step of the run reads before one
-- overwrites it.
use Rattle.std.specs.Prelude.{ℕ, zero, suc, ◌+◌, ◌-◌, ◌^◌, ◌&&◌, ◌||◌, not, Bool, false, List, [], filter}
use Rattle.std.specs.List.{flat_map}
use Rattle.guest_machine.specs.Exec.{touched_of}
use Rattle.guest_machine.specs.Run.{post}
use Rattle.guest_machine.specs.Spans.{covers}
use Rattle.guest_machine.specs.declared.setup.Touched.{Touched}
use Rattle.scenario.specs.Scenario.{Scenario, first_state}
use Rattle.sweep_plans.specs.Glitches.{byte_flips, when}
use Rattle.sweep_plans.specs.Numbers.{below}
use Rattle.sweep_plans.specs.declared.change.Change.{Change}
use Rattle.sweep_plans.specs.declared.plan.Plan.{Plan}
use Rattle.sweep_plans.specs.declared.standing.Standing.{Standing}
use Rattle.sweep_plans.specs.declared.standing.Standing.TheVariants as At

-- the ranges of bytes that a step of the run reads and writes, as a look at the run finds them. The word that the step
-- executes is in neither: the model `words` has that
abbrev pub touched_in : Scenario → ℕ → Touched
touched_in sc step = touched_of (post (first_state sc) sc.setup sc.marks step) sc.setup

-- does one of some steps, from a first one on, write a byte?
unfoldable pub is_written : Scenario → ℕ → ℕ → ℕ → Bool
is_written sc first zero a = false
is_written sc first (suc n) a = is_written sc first n a || covers (touched_in sc (first + n)).writes a

-- does one of them read it, and none before that one write it? A step that does both reads it first
unfoldable pub is_read : Scenario → ℕ → ℕ → ℕ → Bool
is_read sc first zero a = false
is_read sc first (suc n) a =
    is_read sc first n a || (covers (touched_in sc (first + n)).reads a && not (is_written sc first n a))

-- is a byte read by a step or a later one below the chosen step, before one of them overwrites it?
abbrev pub is_read_later : Scenario → ℕ → ℕ → Bool
is_read_later sc step a = is_read sc step (sc.step - step) a

-- the flips of those of the bytes below an address, in ascending order of their addresses
unfoldable pub turned_below : Scenario → ℕ → ℕ → List Change
turned_below sc step end = flat_map (byte_flips step) (filter (is_read_later sc step) (below end))

-- the changes of the model at a place, if it was asked for
unfoldable pub memory_at : Scenario → Plan → Standing → List Change
memory_at sc plan (At.Step step pc half) = when plan.models.memory (turned_below sc step (2 ^ 32))
memory_at sc plan _ = []

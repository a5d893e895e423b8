-- Where a run of `exec` ends: at its last step, or earlier, where its stack overflows, or where it needs more memory
-- than it may have. This is looked for at some steps only.
use Rattle.std.specs.Prelude.{◌≡◌, ◌≤◌, ◌<◌, ◌+◌, ◌%◌, ◌==◌, ◌&&◌, not, nat_le, nat_lt, ℕ, Bool, true, false, Option}
use Rattle.std.specs.Prelude.{Some, None, is_some, suc}
use Rattle.definedness.specs.declared.Bits.{Bits}
use Rattle.exit_status.specs.declared.ended.Ended.{Ended}
use Rattle.exit_status.specs.declared.ended.Ended.TheVariants.{AtLast, Overflow, OverLimit}
use Rattle.test_runs.specs.Executions.{state_at, step_of, Held, IsAt, LeavesEnd, Wrote}
use Rattle.test_runs.specs.declared.execution.Execution.{Execution}
use Rattle.guest_elf.specs.Images.{loaded_at, profile_of}
use Rattle.guest_elf.specs.declared.image.Image.{Image}
use Rattle.guest_machine.specs.Exec.{is_running}
use Rattle.guest_machine.specs.Registers.{register}
use Rattle.guest_machine.specs.State.{State}
use Rattle.guest_machine.specs.Streams.{sees_end}
use Rattle.memory_map.specs.Regions.{heap_size}
use Rattle.memory_map.specs.declared.regions.Regions.{Regions}
use Rattle.scenario.specs.Scenario.{Scenario}

-- ---- a stack that overflows

-- the stack pointer: x2 (RISC-V ELF psABI, "Integer Register Convention")
abbrev pub pointer_of : State → Bits
pointer_of s = register s.core 2

-- how far below its region a stack that overflows is found: up to 64 MiB. A pointer further below has been set, as that
-- of a task
abbrev pub most_below : ℕ
most_below = 0x4000000

-- is an address below the stack's region, and no further?
abbrev pub is_below : Regions → ℕ → Bool
is_below regions a = nat_lt a regions.stack.begin && nat_le regions.stack.begin (a + most_below)

-- is it of the heap's region?
abbrev pub is_of_heap : Regions → ℕ → Bool
is_of_heap regions a = nat_le regions.heap a && nat_lt a (regions.heap + heap_size)

-- is a stack pointer one of the stack that has run out of its region? Other stacks are in what the program loads, or in
-- blocks of its heap
abbrev pub is_past : Image → ℕ → Bool
is_past image a =
    is_below (profile_of image).regions a && (not (is_of_heap (profile_of image).regions a)
    && not (is_some (loaded_at image a)))

-- does the stack overflow? The machine runs, and its stack pointer has no undefined bit, and is such a one
unfoldable pub overflows : Image → State → Bool
overflows image s =
    is_running s.core.status && (((pointer_of s).undef == 0) && is_past image (pointer_of s).value)

-- ---- looks

-- how many steps are between two looks
abbrev pub apart : ℕ
apart = 65536

-- is it looked at a step?
abbrev pub is_look : ℕ → Bool
is_look n = n % apart == 0

-- a look at a step, if it is one, doesn't find that the stack overflows
abbrev pub IsKept : Scenario → ℕ → Type 0
IsKept sc n = is_look n ≡ true → overflows sc.image (state_at sc n) ≡ false

-- none before a step does
abbrev pub KeepsStack : Scenario → ℕ → Type 0
KeepsStack sc n = (k : ℕ) → k < n → IsKept sc k

-- ---- the end

-- why a run ends at a step, by what is found there: the last step; or a look finds that the stack overflows, or else
-- that a machine that runs needs more memory than there may be, for which there is a limit
abbrev pub Finds : Scenario → ℕ → ℕ → Ended → Type 0
Finds sc limit n AtLast = (n ≡ sc.step) × IsKept sc n
Finds sc limit n (Overflow pointer) =
    (is_look n ≡ true) × (overflows sc.image (state_at sc n) ≡ true) × (pointer ≡ (pointer_of (state_at sc n)).value)
Finds sc limit n (OverLimit most) =
    (is_look n ≡ true) × IsKept sc n × (is_running (state_at sc n).core.status ≡ true) × (most ≡ limit)
    × (limit ≡ 0 → ⊥)

-- it ends at a step for a reason: the step isn't above the last one, and no look before it finds that the stack
-- overflows
abbrev pub EndsAt : Scenario → ℕ → ℕ → Ended → Type 0
EndsAt sc limit n ended = (n ≤ sc.step) × KeepsStack sc n × Finds sc limit n ended

-- ---- a run that may wait for its input

-- at a step it asks for more of the input than there is, and no look up to there finds that the stack overflows
abbrev pub AsksAt : Scenario → ℕ → Type 0
AsksAt sc n = (n < sc.step) × (sees_end (state_at sc n) sc.setup ≡ true) × KeepsStack sc (suc n)

-- a run comes to its end, or, if it may wait, to a step at which it asks for more
abbrev pub ComesTo : Scenario → Bool → ℕ → ℕ → Option Ended → Type 0
ComesTo sc waits limit n None = (waits ≡ true) × AsksAt sc n
ComesTo sc waits limit n (Some ended) = EndsAt sc limit n ended

-- ---- an execution of a run

-- it comes to a step, and what the run writes out up to there was written
pub record IsRun (sc : Scenario) (waits : Bool) (from : ℕ) (old new : Held) (e : Execution) : Type 0 where
  pub at : IsAt e sc
  pub unseen : LeavesEnd sc waits from (step_of e)
  pub wrote : Wrote sc from (step_of e) old new

-- it goes on to the next look, before which none finds that the stack overflows; or it waits
abbrev pub IsLeg : Scenario → Bool → ℕ → Held → Held → Execution → Bool → Type 0
IsLeg sc waits from old new e true =
    IsRun sc waits from old new e × (from < step_of e) × (step_of e ≤ sc.step) × KeepsStack sc (step_of e)
IsLeg sc waits from old new e false = IsRun sc waits from old new e × (waits ≡ true) × AsksAt sc (step_of e)

-- it goes on to the run's end, or waits
abbrev pub IsWatched : Scenario → Bool → ℕ → ℕ → Held → Held → Execution → Option Ended → Type 0
IsWatched sc waits limit from old new e ended =
    IsRun sc waits from old new e × ComesTo sc waits limit (step_of e) ended

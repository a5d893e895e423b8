-- One state that stands for many: the others agree with it at its defined bits, and have no undefined bit that it has
-- defined.
use Rattle.std.specs.Prelude.{◌≡◌, ℕ, suc, zero, ◌^◌, ◌<◌, ◌≤◌, List, length, slice_index_or}
use Rattle.definedness.specs.declared.Bits.{Bits}
use Rattle.definedness.specs.Law.{AgreeWhereDefined}
use Rattle.shadow_memory.specs.Shadows.{Shadow}
use Rattle.guest_machine.specs.State.{State}
use Rattle.guest_machine.specs.Registers.{known}
use Rattle.guest_machine.specs.Exec.{exec, touched_of}
use Rattle.guest_machine.specs.declared.setup.Setup.{Setup}
use Rattle.clean_reports.specs.Uses.{NoUse}
use Rattle.any_runs.specs.Sharper.{Within, SharperShadow, HasStackPointer}
use Rattle.clean_reports.specs.Agreement.{AreBytes, BytesAgree}
use Rattle.clean_reports.specs.Heap.{BlocksAreOpen}

-- y is one of the values that x stands for
pub record BitsStand (x y : Bits) : Type 0 where
  pub value : AgreeWhereDefined x.undef x.value y.value
  pub undef : Within 32 x.undef y.undef
  pub one : x.value < 2 ^ 32
  pub other : y.value < 2 ^ 32
  pub small : y.undef < 2 ^ 32

pub record RegistersStand (xs ys : List Bits) : Type 0 where
  pub count : length xs ≡ length ys
  pub each : (r : ℕ) → BitsStand (slice_index_or xs r (known 0)) (slice_index_or ys r (known 0))

abbrev pub ControlsStand : (ℕ → Bits) → (ℕ → Bits) → Type 0
ControlsStand f g = (number : ℕ) → BitsStand (f number) (g number)

-- a memory, with its shadows, stands for another
pub record MemoryStands (shadows others : ℕ → Shadow) (f g : ℕ → ℕ) : Type 0 where
  pub shadow : (a : ℕ) → SharperShadow (shadows a) (others a)
  pub each : (a : ℕ) → BytesAgree (shadows a) (f a) (g a)
  pub one : AreBytes f
  pub other : AreBytes g

-- s stands for t: all else is the same
pub record Stands (s t : State) : Type 0 where
  pub memory : MemoryStands s.core.shadow t.core.shadow s.bytes t.bytes
  pub registers : RegistersStand s.core.registers t.core.registers
  pub controls : ControlsStand s.core.controls t.core.controls
  pub pc : s.core.pc ≡ t.core.pc
  pub status : s.core.status ≡ t.core.status
  pub frames : s.core.frames ≡ t.core.frames
  pub blocks : s.core.blocks ≡ t.core.blocks
  pub isa : s.core.isa ≡ t.core.isa
  pub stack : s.core.stack ≡ t.core.stack
  pub limits : s.core.limits ≡ t.core.limits
  pub reserved : s.core.reserved ≡ t.core.reserved
  pub steps : s.core.steps ≡ t.core.steps
  pub position : s.position ≡ t.position
  pub end_seen : s.end_seen ≡ t.end_seen
  pub output : s.output ≡ t.output
  pub heap_calls : s.heap_calls ≡ t.heap_calls
  pub events : s.events ≡ t.events

-- A step that raises no use, and whose stack pointer is defined before it and after it, stands for the steps of all
-- states that its state stands for: they end in states that its end stands for, with the same errors, and touch the
-- same addresses.
pub record StepStands (setup : Setup) (s t : State) : Type 0 where
  pub after : Stands (exec s setup) (exec t setup)
  pub touched : touched_of s setup ≡ touched_of t setup

abbrev pub StepsStand : List ℕ → Type 0
StepsStand input =
    (setup : Setup) (s t : State) → setup.input ≡ input → Stands s t → BlocksAreOpen s.core → HasStackPointer s
    → HasStackPointer (exec s setup) → NoUse (exec s setup).events → StepStands setup s t

-- A run, whose state is changed before each step: the states before the steps
abbrev pub Changes : Type 0
Changes = ℕ → State → State

unfoldable pub before : State → Setup → Changes → ℕ → State
before start setup change zero = start
before start setup change (suc k) = exec (change k (before start setup change k)) setup

abbrev pub at_step : State → Setup → Changes → ℕ → State
at_step start setup change k = change k (before start setup change k)

-- what is asked of the one run
pub record IsFit (start : State) (setup : Setup) (change : Changes) (n : ℕ) : Type 0 where
  pub blocks : (k : ℕ) → k < n → BlocksAreOpen (at_step start setup change k).core
  pub pointer : (k : ℕ) → k < n → HasStackPointer (at_step start setup change k)
  pub left : (k : ℕ) → k < n → HasStackPointer (exec (at_step start setup change k) setup)
  pub uses : NoUse (before start setup change n).events

-- the changes before step k keep that one state stands for the other, and raise no errors
pub record Keeps (change other : Changes) (s t : State) (k : ℕ) : Type 0 where
  pub stands : Stands s t → Stands (change k s) (other k t)
  pub events : (change k s).events ≡ s.events

-- The law: one run with undefined bits stands for all runs whose bits are any. At each step up to n their states are
-- those that its state stands for, and each step touches the same addresses.
abbrev pub RunsStand : List ℕ → Type 0
RunsStand input =
    (setup : Setup) (start begun : State) (change other : Changes) (n : ℕ) → setup.input ≡ input → Stands start begun
    → ((k : ℕ) → k ≤ n → Keeps change other (before start setup change k) (before begun setup other k) k)
    → IsFit start setup change n
    → Stands (at_step start setup change n) (at_step begun setup other n)
    × ((k : ℕ) → k < n
    → touched_of (at_step start setup change k) setup ≡ touched_of (at_step begun setup other k) setup)

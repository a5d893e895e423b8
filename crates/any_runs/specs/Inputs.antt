-- Bytes of the input that are any: after a step that reads them they are undefined.
use Rattle.std.specs.Prelude.{◌≡◌, ℕ, zero, suc, ◌+◌, ◌<◌, ◌≤◌, ◌&&◌, Bool, true, false, if◌then◌else◌}
use Rattle.std.specs.Prelude.{List, [], length, slice_index, Option, Some, None}
use Rattle.shadow_memory.specs.Ranges.{is_in, offset}
use Rattle.shadow_memory.specs.Shadows.{Shadow}
use Rattle.run_values.specs.declared.span.Span.{Span}
use Rattle.guest_elf.specs.declared.image.Image.{Image}
use Rattle.guest_machine.specs.State.{State}
use Rattle.guest_machine.specs.Run.{pre}
use Rattle.clean_reports.specs.Agreement.{AreBytes}
use Rattle.clean_reports.specs.Disturbed.{IsStartOf}
use Rattle.guest_machine.specs.Exec.{exec, intake_at, uses_at, touched_of}
use Rattle.guest_machine.specs.declared.setup.Setup.{Setup}
use Rattle.clean_reports.specs.Uses.{NoUse}
use Rattle.any_runs.specs.Sharper.{HasStackPointer}
use Rattle.any_runs.specs.Stands.{Stands, Changes, Keeps, at_step, before}
use Rattle.clean_reports.specs.Heap.{BlocksAreOpen}

-- the same setup but for bytes of the input at positions that pass a test
pub record DiffersIn (any : ℕ → Bool) (setup other : Setup) : Type 0 where
  pub redzone : setup.redzone ≡ other.redzone
  pub volume : setup.volume ≡ other.volume
  pub hooks : setup.hooks ≡ other.hooks
  pub count : length setup.input ≡ length other.input
  pub outside : (i : ℕ) → any i ≡ false → slice_index setup.input i ≡ slice_index other.input i

-- a byte that may be accessed made undefined
unfoldable pub faded : Shadow → Shadow
faded s = if s.accessible then record { accessible = true; undef = 255 } else s

-- has a step that was given a number of bytes of the input, from a position on, put one of those at an address?
unfoldable pub is_given : (ℕ → Bool) → ℕ → ℕ → Option Span → ℕ → Bool
is_given any position count None a = false
is_given any position count (Some span) a =
    is_in span.start count a && any (position + offset span.start a)

-- by the step of a state
abbrev pub is_read : (ℕ → Bool) → State → Setup → ℕ → Bool
is_read any s setup a =
    is_given any s.position (intake_at s.core s.bytes s.position setup).count
    (uses_at s.core s.bytes s.position (length s.output) setup).writes a

-- a step after which those of its bytes are undefined
unfoldable pub blurred : (ℕ → Bool) → State → Setup → State
blurred any s setup =
    let after = exec s setup in
    record after {
      core = record after.core {
        shadow = λ a. if is_read any s setup a then faded (after.core.shadow a) else after.core.shadow a;
      };
    }

-- the run in which the bytes are undefined as soon as they are read
unfoldable pub blurred_before : (ℕ → Bool) → State → Setup → Changes → ℕ → State
blurred_before any start setup change zero = start
blurred_before any start setup change (suc k) =
    blurred any (change k (blurred_before any start setup change k)) setup

abbrev pub blurred_at : (ℕ → Bool) → State → Setup → Changes → ℕ → State
blurred_at any start setup change k = change k (blurred_before any start setup change k)

pub record IsBlurredFit (any : ℕ → Bool) (start : State) (setup : Setup) (change : Changes) (n : ℕ) : Type 0 where
  pub pointer : (k : ℕ) → k < n → HasStackPointer (blurred_at any start setup change k)
  pub left : (k : ℕ) → k < n → HasStackPointer (exec (blurred_at any start setup change k) setup)
  pub uses : NoUse (blurred_before any start setup change n).events

-- The law of any input: one run with bytes of the input undefined stands for the runs of all inputs that differ in
-- these bytes only
abbrev pub InputsStand : List ℕ → List ℕ → Type 0
InputsStand input another =
    (setup other : Setup) (any : ℕ → Bool) (start begun : State) (change changed : Changes) (n : ℕ)
    → setup.input ≡ input → other.input ≡ another → DiffersIn any setup other → Stands start begun
    → ((k : ℕ) → k ≤ n
    → Keeps change changed (blurred_before any start setup change k) (before begun other changed k) k)
    → IsBlurredFit any start setup change n
    → ((k : ℕ) → k < n → BlocksAreOpen (at_step begun other changed k).core)
    → Stands (blurred_at any start setup change n) (at_step begun other changed n)
    × ((k : ℕ) → k < n
    → touched_of (blurred_at any start setup change k) setup ≡ touched_of (at_step begun other changed k) other)

-- the run without changes
abbrev pub unchanged : Changes
unchanged k s = s

-- The theorem: a program's run, from step zero and without marks, with bytes of the input undefined as soon as they are
-- read. If it raises no use, and its stack pointer is defined at each step, it stands for the run of each input that
-- differs in these bytes only; and each step touches the same addresses.
pub record IsAny (image : Image) (start : State) (setup other : Setup) (any : ℕ → Bool) (n : ℕ) : Type 0 where
  pub stands : Stands (blurred_before any start setup unchanged n) (pre start other [] n)
  pub touched : (k : ℕ) → k < n
      → touched_of (blurred_before any start setup unchanged k) setup ≡ touched_of (pre start other [] k) other

abbrev pub AnyInput : List ℕ → List ℕ → Type 0
AnyInput input another =
    (image : Image) (start : State) (setup other : Setup) (any : ℕ → Bool) (n : ℕ) → IsStartOf image start
    → AreBytes start.bytes → setup.input ≡ input → other.input ≡ another → DiffersIn any setup other
    → IsBlurredFit any start setup unchanged n → IsAny image start setup other any n

-- The same values with fewer undefined bits.
use Rattle.std.specs.Prelude.{◌≡◌, ℕ, ◌^◌, ◌<◌, List, length, slice_index_or}
use Rattle.std.specs.Int.{bit_at}
use Rattle.definedness.specs.declared.Bits.{Bits}
use Rattle.shadow_memory.specs.Shadows.{Shadow}
use Rattle.instructions.specs.Alu.{computed}
use Rattle.instructions.specs.declared.instruction.Operation.{Operation}
use Rattle.guest_machine.specs.State.{State}
use Rattle.guest_machine.specs.Registers.{known, register}
use Rattle.guest_machine.specs.Exec.{exec}
use Rattle.guest_machine.specs.declared.setup.Setup.{Setup}
use Rattle.clean_reports.specs.Uses.{NoUse}

-- each of the first n bits that is clear in u is clear in v
abbrev pub Within : ℕ → ℕ → ℕ → Type 0
Within n u v = (i : ℕ) → i < n → bit_at u i ≡ 0 → bit_at v i ≡ 0

-- the same value, and no bit of y is undefined that is defined in x
pub record Sharper (x y : Bits) : Type 0 where
  pub value : x.value ≡ y.value
  pub undef : Within 32 x.undef y.undef
  pub small : y.undef < 2 ^ 32

-- the same of a byte's shadow: what may be accessed is the same
pub record SharperShadow (x y : Shadow) : Type 0 where
  pub accessible : x.accessible ≡ y.accessible
  pub undef : Within 8 x.undef y.undef
  pub one : x.undef < 2 ^ 8
  pub other : y.undef < 2 ^ 8

abbrev pub ShadowsSharper : (ℕ → Shadow) → (ℕ → Shadow) → Type 0
ShadowsSharper f g = (a : ℕ) → SharperShadow (f a) (g a)

pub record RegistersSharper (xs ys : List Bits) : Type 0 where
  pub count : length xs ≡ length ys
  pub each : (r : ℕ) → Sharper (slice_index_or xs r (known 0)) (slice_index_or ys r (known 0))

abbrev pub ControlsSharper : (ℕ → Bits) → (ℕ → Bits) → Type 0
ControlsSharper f g = (number : ℕ) → Sharper (f number) (g number)

-- t is s with fewer undefined bits, in memory and registers
pub record StatesSharper (s t : State) : Type 0 where
  pub bytes : s.bytes ≡ t.bytes
  pub shadow : ShadowsSharper s.core.shadow t.core.shadow
  pub registers : RegistersSharper s.core.registers t.core.registers
  pub controls : ControlsSharper s.core.controls t.core.controls
  pub pc : s.core.pc ≡ t.core.pc
  pub status : s.core.status ≡ t.core.status
  pub frames : s.core.frames ≡ t.core.frames
  pub blocks : s.core.blocks ≡ t.core.blocks
  pub isa : s.core.isa ≡ t.core.isa
  pub stack : s.core.stack ≡ t.core.stack
  pub limits : s.core.limits ≡ t.core.limits
  pub reserved : s.core.reserved ≡ t.core.reserved
  pub steps : s.core.steps ≡ t.core.steps
  pub position : s.position ≡ t.position
  pub end_seen : s.end_seen ≡ t.end_seen
  pub output : s.output ≡ t.output
  pub heap_calls : s.heap_calls ≡ t.heap_calls
  pub events : s.events ≡ t.events

-- a computation of sharper operands gives a sharper result
abbrev pub ComputedSharper : Type 0
ComputedSharper =
    (operation : Operation) (x y u v : Bits) → Sharper x u → Sharper y v
    → Sharper (computed operation x y) (computed operation u v)

-- the stack pointer has no undefined bit
abbrev pub HasStackPointer : State → Type 0
HasStackPointer s = (register s.core 2).undef ≡ 0

-- A step that raises no use, and whose stack pointer is defined before it and after it, does the same with fewer
-- undefined bits, and leaves fewer of them. It raises the same errors.
abbrev pub StepsSharper : Type 0
StepsSharper =
    (setup : Setup) (s t : State) → StatesSharper s t → HasStackPointer s → HasStackPointer (exec s setup)
    → NoUse (exec s setup).events → StatesSharper (exec s setup) (exec t setup)

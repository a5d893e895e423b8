-- States that agree where they are defined: a program that uses only defined bits of accessible bytes can't distinguish
-- them. Byte values and register values may differ at the other bits. All else is equal.
-- Sources: Seward and Nethercote, "Using Valgrind to detect undefined value errors with bit-precision" (USENIX 2005),
-- section 2; Memcheck manual, section 4.5.
use Rattle.std.specs.Prelude.{◌≡◌, ℕ, ◌^◌, ◌<◌, true, List, length, slice_index_or}
use Rattle.std.specs.Int.{bit_at}
use Rattle.definedness.specs.declared.Bits.{Bits}
use Rattle.definedness.specs.Law.{AgreeWhereDefined}
use Rattle.shadow_memory.specs.Shadows.{Shadow}
use Rattle.guest_machine.specs.State.{State}
use Rattle.guest_machine.specs.Registers.{known}

-- a function gives bytes
abbrev pub AreBytes : (ℕ → ℕ) → Type 0
AreBytes f = (a : ℕ) → f a < 2 ^ 8

-- two values of a byte agree at each defined bit, if the byte may be accessed
abbrev pub BytesAgree : Shadow → ℕ → ℕ → Type 0
BytesAgree shadow a b =
    shadow.accessible ≡ true → (i : ℕ) → i < 8 → bit_at shadow.undef i ≡ 0 → bit_at a i ≡ bit_at b i

-- two memories agree at each address; their values are bytes, and so are the undefined bits
pub record MemoriesAgree (shadows : ℕ → Shadow) (f g : ℕ → ℕ) : Type 0 where
  pub each : (a : ℕ) → BytesAgree (shadows a) (f a) (g a)
  pub bits : AreBytes (λ a. (shadows a).undef)
  pub one : AreBytes f
  pub other : AreBytes g

-- two values of a register have the same undefined bits and agree at the others; both are words
pub record ValuesAgree (x y : Bits) : Type 0 where
  pub undef : x.undef ≡ y.undef
  pub value : AgreeWhereDefined x.undef x.value y.value
  pub one : x.value < 2 ^ 32
  pub other : y.value < 2 ^ 32

-- as many registers, and each agrees
pub record RegistersAgree (xs ys : List Bits) : Type 0 where
  pub count : length xs ≡ length ys
  pub each : (r : ℕ) → ValuesAgree (slice_index_or xs r (known 0)) (slice_index_or ys r (known 0))

-- the control registers of each number agree
abbrev pub ControlsAgree : (ℕ → Bits) → (ℕ → Bits) → Type 0
ControlsAgree f g = (number : ℕ) → ValuesAgree (f number) (g number)

-- two states agree where they are defined
pub record StatesAgree (s t : State) : Type 0 where
  pub memory : MemoriesAgree s.core.shadow s.bytes t.bytes
  pub registers : RegistersAgree s.core.registers t.core.registers
  pub shadow : s.core.shadow ≡ t.core.shadow
  pub pc : s.core.pc ≡ t.core.pc
  pub status : s.core.status ≡ t.core.status
  pub frames : s.core.frames ≡ t.core.frames
  pub blocks : s.core.blocks ≡ t.core.blocks
  pub isa : s.core.isa ≡ t.core.isa
  pub stack : s.core.stack ≡ t.core.stack
  pub limits : s.core.limits ≡ t.core.limits
  pub reserved : s.core.reserved ≡ t.core.reserved
  pub controls : ControlsAgree s.core.controls t.core.controls
  pub steps : s.core.steps ≡ t.core.steps
  pub position : s.position ≡ t.position
  pub end_seen : s.end_seen ≡ t.end_seen
  pub output : s.output ≡ t.output
  pub heap_calls : s.heap_calls ≡ t.heap_calls
  pub events : s.events ≡ t.events

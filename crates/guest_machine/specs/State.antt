-- A run at one moment: the byte values, what else decides a step, and what only increases.
use Rattle.std.specs.Prelude.{ℕ, Bool, List, Option}
use Rattle.definedness.specs.declared.Bits.{Bits}
use Rattle.shadow_memory.specs.Shadows.{Shadow}
use Rattle.run_values.specs.declared.status.Status.{Status}
use Rattle.call_stacks.specs.declared.stack.Frame.{Frame}
use Rattle.guest_elf.specs.declared.profile.Isa.{Isa}
use Rattle.guest_elf.specs.declared.profile.StreamLimits.{StreamLimits}
use Rattle.guest_heap.specs.Blocks.{Blocks}
use Rattle.memory_map.specs.declared.regions.StackRegion.{StackRegion}
use Rattle.error_events.specs.declared.event.Event.{Event}

-- what decides a step, besides the byte values: for each address whether it may be accessed and its undefined bits, the
-- 32 registers with their undefined bits, pc, whether the machine runs, the calls that it is in, newest first,
-- the blocks of the heap, the instruction set, the region of the stack and how many bytes calls move, which no step
-- changes, the address that is reserved, if one is (RISC-V Unprivileged ISA 20191213, section 8.2), the control
-- registers by their numbers (chapter 9), and how many steps were made, which is counted where there are counters of
-- them (chapter 10)
pub record Core : Type 0 where
  pub shadow : ℕ → Shadow
  pub registers : List Bits
  pub pc : ℕ
  pub status : Status
  pub frames : List Frame
  pub blocks : Blocks
  pub isa : Isa
  pub stack : StackRegion
  pub limits : StreamLimits
  pub reserved : Option ℕ
  pub controls : ℕ → Bits
  pub steps : ℕ

-- a state: besides the core, the byte at each address, the number of bytes of input read, whether some read asked for
-- more than was left of it, the bytes that were written, the number of heap calls, and all errors so far
pub record State : Type 0 where
  pub bytes : ℕ → ℕ
  pub core : Core
  pub position : ℕ
  pub end_seen : Bool
  pub output : List ℕ
  pub heap_calls : ℕ
  pub events : List Event

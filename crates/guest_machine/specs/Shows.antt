-- The state that a machine shows.
use Rattle.std.specs.Prelude.{◌≡◌, ℕ, Bool, if◌then◌else◌, length}
use Rattle.control_registers.specs.Written.{registers_in}
use Rattle.guest_elf.specs.Profiles.{has_controls}
use Rattle.shadow_memory.specs.Memories.{bytes_in, shadows_in}
use Rattle.guest_heap.specs.Heaps.{blocks_of}
use Rattle.guest_machine.specs.State.{Core, State}
use Rattle.error_events.specs.Groups.{grouped}
use Rattle.error_events.specs.Shown.{groups_of}
use Rattle.guest_machine.specs.declared.machine.Guest.{Guest}
use Rattle.guest_machine.specs.declared.machine.Machine.{Machine}

-- what decides a step, besides the byte values. Steps count only where there are counters of them
abbrev pub core_of : Guest → Core
core_of g = record {
  shadow = shadows_in g.memory;
  registers = g.registers;
  pc = g.pc;
  status = g.status;
  frames = g.frames;
  blocks = blocks_of g.heap;
  isa = g.isa;
  stack = g.stack;
  limits = g.limits;
  reserved = g.reserved;
  controls = registers_in g.controls;
  steps = if has_controls g.isa then g.steps else 0;
}

-- the byte values
abbrev pub bytes_of : Guest → ℕ → ℕ
bytes_of g = bytes_in g.memory

-- all parts agree, and the groups are those of the state's errors
pub record Holds (g : Guest) (s : State) : Type 0 where
  pub bytes : bytes_of g ≡ s.bytes
  pub core : core_of g ≡ s.core
  pub position : g.progress.position ≡ s.position
  pub end_seen : g.progress.end_seen ≡ s.end_seen
  pub output : g.progress.output_len ≡ length s.output
  pub heap_calls : g.progress.heap_calls ≡ s.heap_calls
  pub groups : groups_of g.noted.groups ≡ grouped s.events

-- the machine shows the state
unfoldable pub Shows : Machine → State → Type 0
Shows m s = Holds m.guest.value s

-- did the last step of a machine raise an error?
unfoldable pub has_raised : Machine → Bool
has_raised m = m.guest.value.noted.raised

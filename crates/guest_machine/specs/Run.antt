-- A run from step zero, with alterations between steps.
use Rattle.std.specs.Prelude.{ℕ, false, zero, suc, ◌-◌, ◌==◌, List, filter, fold, unwrap_or, is_some, if◌then◌else◌}
use Rattle.std.specs.Prelude.{replicate, slice_set, [], None}
use Rattle.control_registers.specs.Registers.{no_registers}
use Rattle.guest_elf.specs.declared.image.Image.{Image}
use Rattle.guest_heap.specs.Blocks.{no_blocks}
use Rattle.guest_elf.specs.Images.{loaded_at, entry_of, profile_of}
use Rattle.memory_map.specs.Regions.{first_stack_bytes}
use Rattle.instructions.specs.Codes.{len_of, number_of}
use Rattle.instructions.specs.declared.code.Code.{Code}
use Rattle.shadow_memory.specs.Ranges.{written, byte_of}
use Rattle.shadow_memory.specs.Shadows.{Shadow, shadow_of, made_so}
use Rattle.guest_machine.specs.State.{State}
use Rattle.guest_machine.specs.Registers.{known}
use Rattle.guest_machine.specs.Effects.{no_bytes}
use Rattle.guest_machine.specs.Exec.{exec}
use Rattle.shadow_memory.specs.declared.cells.RangeKind.{RangeKind}
use Rattle.shadow_memory.specs.declared.cells.RangeKind.TheVariants.{NoAccess, Defined}
use Rattle.guest_machine.specs.declared.setup.Setup.{Setup}
use Rattle.run_values.specs.declared.mark.Mark.{Mark}
use Rattle.run_values.specs.declared.alteration.Alteration.{Alteration}
use Rattle.guest_machine.specs.Alterations.{altered}
use Rattle.run_values.specs.declared.status.Status.TheVariants.{Running}

-- the loaded bytes, and 0 elsewhere
abbrev pub image_bytes : Image → ℕ → ℕ
image_bytes image a = unwrap_or (loaded_at image a) 0

-- loaded bytes are accessible and defined, the others inaccessible
abbrev pub image_shadows : Image → ℕ → Shadow
image_shadows image a = if is_some (loaded_at image a) then shadow_of Defined else shadow_of NoAccess

-- where the stack pointer points at the start: at sixteen bytes that are zero, accessible and defined
abbrev pub stack_start : Image → ℕ
stack_start image = (profile_of image).regions.stack.end - first_stack_bytes

-- the start of a program: pc at its entry, x2 at the stack, the other registers 0, all registers defined, the control
-- registers too, which are 0, and no address reserved
unfoldable pub start_state : Image → State
start_state image =
    record {
      bytes = written (image_bytes image) (stack_start image) first_stack_bytes no_bytes;
      core = record {
        shadow = made_so (image_shadows image) (stack_start image) first_stack_bytes Defined;
        registers = slice_set (replicate 32 (known 0)) 2 (known (stack_start image));
        pc = entry_of image;
        status = Running;
        frames = [];
        blocks = no_blocks (profile_of image).regions.heap;
        isa = (profile_of image).isa;
        stack = (profile_of image).regions.stack;
        limits = (profile_of image).limits;
        reserved = None;
        controls = no_registers;
        steps = 0;
      };
      position = 0;
      end_seen = false;
      output = [];
      heap_calls = 0;
      events = [];
    }

-- a range of a state given a kind
abbrev pub made_state : State → ℕ → ℕ → RangeKind → State
made_state s start len kind = record s { core = record s.core { shadow = made_so s.core.shadow start len kind } }

-- a mark applied
unfoldable pub marked : State → Mark → State
marked s mark = made_state s mark.addr mark.len mark.kind

-- the byte values of a state changed to those of a code, from an address on
unfoldable pub poked : State → ℕ → Code → State
poked s addr code = record s { bytes = written s.bytes addr (len_of code) (byte_of (number_of code)) }

-- the alterations of a step, in list order
abbrev pub marks_at : ℕ → List Alteration → List Alteration
marks_at k marks = filter (λ m. m.step == k) marks

-- the alterations of step k applied
unfoldable pub after_marks : ℕ → List Alteration → State → State
after_marks k marks s = fold altered s (marks_at k marks)

-- the state before step k of the run from a state, and the state that step k starts from
unfoldable pub pre : State → Setup → List Alteration → ℕ → State
pre start setup marks zero = start
pre start setup marks (suc k) = exec (after_marks k marks (pre start setup marks k)) setup

unfoldable pub post : State → Setup → List Alteration → ℕ → State
post start setup marks k = after_marks k marks (pre start setup marks k)

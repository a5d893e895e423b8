-- The machine at the start shows the start.
use Rattle.std.proofs.Common.{Bool, true, cond, false, ◌≡◌, ℕ, refl, ap, ap₂, ◌∙◌, List, [], None, slice_index}
use Rattle.std.proofs.Common.{slice_index_or, replicate}
use Rattle.std.specs.Prelude.{slice_set}
use Rattle.control_registers.specs.Registers.{no_registers}
use Rattle.control_registers.specs.Written.{registers_in}
use Rattle.control_registers.specs.declared.registers.ControlRegisters.{ControlRegisters}
use Rattle.guest_elf.specs.Profiles.{has_controls}
use Rattle.std.proofs.Math.Path.{fun_ext}
use Rattle.definedness.specs.declared.Bits.{Bits}
use Rattle.guest_elf.specs.declared.image.Image.{Image}
use Rattle.guest_elf.specs.declared.profile.Isa.{Isa}
use Rattle.guest_elf.specs.declared.profile.StreamLimits.{StreamLimits}
use Rattle.guest_elf.specs.declared.segment.Segment.{Segment}
use Rattle.guest_elf.specs.Images.{segments_of, entry_of, loaded_at, profile_of}
use Rattle.shadow_memory.specs.Ranges.{written}
use Rattle.shadow_memory.specs.Shadows.{shadow_of, made_so}
use Rattle.shadow_memory.specs.Memories.{bytes_in, shadows_in}
use Rattle.guest_machine.specs.Registers.{known}
use Rattle.guest_machine.specs.Loading.{loaded_bytes, loaded_shadows}
use Rattle.guest_machine.specs.Run.{image_bytes, image_shadows, start_state, stack_start}
use Rattle.guest_machine.specs.Effects.{no_bytes}
use Rattle.memory_map.specs.declared.regions.StackRegion.{StackRegion}
use Rattle.error_events.specs.Groups.{grouped, firsts_after}
use Rattle.error_events.specs.Shown.{groups_of}
use Rattle.std.specs.declared.alloc.Global.{Global}
use Rattle.call_stacks.specs.declared.stack.Frame.{Frame}
use Rattle.guest_heap.specs.Blocks.{no_blocks}
use Rattle.guest_heap.specs.Heaps.{blocks_of}
use Rattle.guest_heap.specs.declared.heap.Heap.{Heap}
use Rattle.guest_machine.specs.Shows.{Holds}
use Rattle.shadow_memory.specs.declared.cells.RangeKind.TheVariants.{NoAccess, Defined}
use Rattle.shadow_memory.specs.declared.memory.Memory.{Memory}
use Rattle.error_events.specs.declared.groups.Groups.{Groups}
use Rattle.run_values.specs.declared.status.Status.TheVariants.{Running}

none-made : (b : Bool) → ◌≡◌ {A = ℕ} (cond b 0 0) 0
none-made true = refl
none-made false = refl

pub holds-start : (alloc : Global) (image : Image) (fresh loaded memory : Memory) (groups : Groups)
    (frames : List Frame) (heap : Heap) (controls : ControlRegisters) (segments : List Segment) (pc : ℕ) (isa : Isa)
    (stack : StackRegion) (limits : StreamLimits) (from : ℕ) (zeros top : Bits)
    → bytes_in fresh ≡ (λ a. 0) → shadows_in fresh ≡ (λ a. shadow_of NoAccess)
    → bytes_in loaded ≡ loaded_bytes segments (bytes_in fresh)
    → shadows_in loaded ≡ loaded_shadows segments (shadows_in fresh)
    → bytes_in memory ≡ written (bytes_in loaded) from 16 (slice_index [])
    → shadows_in memory ≡ made_so (shadows_in loaded) from 16 Defined
    → segments ≡ segments_of image → pc ≡ entry_of image → isa ≡ (profile_of image).isa
    → stack ≡ (profile_of image).regions.stack → limits ≡ (profile_of image).limits → from ≡ stack_start image
    → zeros ≡ known 0 → top ≡ known from
    → groups_of groups ≡ [] → frames ≡ [] → blocks_of heap ≡ no_blocks (profile_of image).regions.heap
    → registers_in controls ≡ no_registers
    → (zero : slice_index_or (slice_set (replicate 32 zeros) 2 top) 0 (known 0) ≡ known 0)
    → Holds (record {
      alloc = alloc;
      memory = memory;
      registers = slice_set (replicate 32 zeros) 2 top;
      pc = pc;
      status = Running;
      frames = frames;
      heap = heap;
      progress = record { position = 0; end_seen = false; output_len = 0; heap_calls = 0 };
      noted = record { groups = groups; raised = false };
      isa = isa;
      stack = stack;
      limits = limits;
      reserved = None;
      controls = controls;
      steps = 0;
      zero = zero;
    })
    (start_state image)
unfolding start_state loaded_bytes loaded_shadows loaded_at grouped firsts_after
holds-start alloc image fresh loaded memory groups frames heap controls segments pc isa stack limits from zeros top b0
    s0 b1 s1 b2 s2 same at set is-stack are-limits starts z t g calls none untouched zero =
    record {
      bytes = b2 ∙ ap₂ (λ f m. written f from 16 m) (b1 ∙ ap₂ loaded_bytes same b0) (fun_ext (λ i. refl))
          ∙ ap (λ n. written (image_bytes image) n 16 no_bytes) starts;
      core = λ i. record {
        shadow = (s2 ∙ ap (λ f. made_so f from 16 Defined) (s1 ∙ ap₂ loaded_shadows same s0)
            ∙ ap (λ n. made_so (image_shadows image) n 16 Defined) starts) i;
        registers = slice_set (replicate 32 (z i)) 2 ((t ∙ ap known starts) i);
        pc = at i;
        status = Running;
        frames = calls i;
        blocks = none i;
        isa = set i;
        stack = is-stack i;
        limits = are-limits i;
        reserved = None;
        controls = untouched i;
        steps = none-made (has_controls isa) i;
      };
      position = refl;
      end_seen = refl;
      output = refl;
      heap_calls = refl;
      groups = g;
    }

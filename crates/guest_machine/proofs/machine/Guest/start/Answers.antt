use Rattle.std.proofs.Common.{◌-◌, ap, ◌∙◌}
use Rattle.guest_heap.specs.Blocks.{no_blocks}
use Rattle.guest_elf.specs.declared.profile.Profile.{Profile}
use Rattle.shadow_memory.specs.Memories.{bytes_in, shadows_in}
use Rattle.guest_machine.proofs.Starting.{holds-start}
use Rattle.guest_machine.proofs.machine.Guest.start.Goals as goal

pub returns : goal.returns
returns c =
    holds-start c.args.alloc c.args.image.now c.new-memory.result c.load_segments.new.memory c.new-cached.result
    c.new-2.result c.in_ok-new.field-0 c.new_in.result c.new-3.result
    c.segments.result.now c.entry.result c.profile-profile.result.isa c.stack.result
    c.profile-profile.result.limits c.stack_start-stack_start.result
    c.known-registers.result c.known.result
    c.new-memory.ensures.bytes c.new-memory.ensures.shadows c.in_ok-load_segments.ensures.bytes
    c.in_ok-load_segments.ensures.shadows (ap bytes_in c.new-cached.ensures ∙ c.in_ok-fill.ensures.bytes)
    (ap shadows_in c.new-cached.ensures ∙ c.in_ok-fill.ensures.shadows)
    c.segments.ensures.list c.entry.ensures (ap (λ (p : Profile). p.isa) c.profile-profile.ensures)
    (c.stack.ensures ∙ ap (λ (p : Profile). p.regions.stack) c.profile-profile.ensures)
    (ap (λ (p : Profile). p.limits) c.profile-profile.ensures)
    (c.stack_start-stack_start.ensures
    ∙ ap (λ (p : Profile). p.regions.stack.end - 16) c.profile-profile.ensures) c.known-registers.ensures
    c.known.ensures c.new-2.ensures
    c.in_ok-new.ensures
    (c.new_in.ensures ∙ ap (λ (p : Profile). no_blocks p.regions.heap) c.profile-profile.ensures) c.new-3.ensures _

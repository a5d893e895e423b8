use Rattle.std.proofs.Common.{◌∙◌, ap, sym, false, slice_index_or}
use Rattle.guest_elf.specs.Hooks.{hook_at}
use Rattle.guest_machine.proofs.HookSteps.{hook_unmarked}
use Rattle.guest_machine.proofs.hooks.Hooks.at.Goals as goal

pub returns-else-self-slot_of : goal.returns-else-self-slot_of
returns-else-self-slot_of c =
    let hooks = c.self.inside.entries.items in
    let sieve = c.self.inside.sieve in
    let unmarked = ap (λ i. slice_index_or sieve i false) (sym c.slot_of.ensures.value) ∙ c.if-self-slot_of.false in
    sym (ap (λ xs. hook_at xs c.args.addr) (sym c.self.view_is)
    ∙ hook_unmarked hooks sieve c.args.addr c.self.invariant.1 unmarked)

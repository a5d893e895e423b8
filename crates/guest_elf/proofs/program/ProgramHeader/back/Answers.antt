use Rattle.std.proofs.Common.{◌≡◌, ◌≤◌, ◌+◌, ◌-◌, ◌∙◌, ap, arith, rules, ℕ}
use Rattle.guest_elf.proofs.Splitting.{ends_within, stack_rises}
use Rattle.memory_map.specs.declared.regions.StackRegion.{StackRegion}
use Rattle.guest_elf.proofs.program.ProgramHeader.back.Goals as goal

pub overflow_sub-result : goal.overflow_sub-result
overflow_sub-result c =
    let ends = ends_within c.args.regions.stack c.args.self c.requires in
    let rises = stack_rises c.args.regions in
    search (rules, ends.0, rises)

left_after : (vaddr filesz memsz begin end : ℕ) → vaddr + filesz ≤ begin → begin ≤ end → end ≤ vaddr + memsz →
    memsz - (end - vaddr) ≡ vaddr + memsz - end
left_after vaddr filesz memsz begin end low rises high = omega arith

pub returns : goal.returns
returns c =
    let ends = ends_within c.args.regions.stack c.args.self c.requires in
    let rises = stack_rises c.args.regions in
    let left = left_after c.args.self.vaddr c.args.self.filesz c.args.self.memsz c.args.regions.stack.begin
    c.args.regions.stack.end ends.0 rises ends.1 in
    ap (λ (stack : StackRegion). record {
      kind = c.args.self.kind;
      offset = 0;
      vaddr = stack.end;
      filesz = 0;
      memsz = c.args.self.memsz - (stack.end - c.args.self.vaddr);
    }) c.stack-stack.ensures
    ∙ ap (λ (size : ℕ). record {
      kind = c.args.self.kind;
      offset = 0;
      vaddr = c.args.regions.stack.end;
      filesz = 0;
      memsz = size;
    }) left

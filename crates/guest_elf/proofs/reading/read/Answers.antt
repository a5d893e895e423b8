use Rattle.std.proofs.Common.{◌≡◌, ◌⊎◌, IfOk, IfErr, Some, refl, subst}
use Rattle.memory_map.specs.Regions.{is_heap_begin, is_stack_region, overlap}
use Rattle.memory_map.specs.declared.regions.Regions.{Regions}
use Rattle.guest_elf.specs.File.{IsImageFor, refusal}
use Rattle.guest_elf.specs.Profiles.{rv32im, usual_limits}
use Rattle.guest_elf.specs.declared.fault.ElfFault.{ElfFault}
use Rattle.guest_elf.specs.declared.fault.ElfFault.TheVariants.{Memory}
use Rattle.guest_elf.proofs.Splitting.{usual_by}
use Rattle.guest_elf.proofs.reading.read.Goals as goal

pub invariant_of-read_for : goal.invariant_of-read_for
unfolding is_heap_begin is_stack_region overlap
invariant_of-read_for c = record { sound = refl }

pub returns-clause-image : goal.returns-clause-image
returns-clause-image c =
    subst (λ (regions : Regions). IfOk c.read_for.result
    (IsImageFor (record { isa = rv32im; regions = regions; limits = usual_limits }) c.args.file.now)) (usual_by _)
    c.read_for.ensures.image

pub returns-clause-refused : goal.returns-clause-refused
returns-clause-refused c =
    subst (λ (regions : Regions). IfErr c.read_for.result (λ (fault : ElfFault).
    (fault ≡ Memory) ⊎ (refusal regions c.args.file.now ≡ Some fault))) (usual_by _) c.read_for.ensures.refused

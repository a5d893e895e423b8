use Rattle.std.proofs.Common.{◌≡◌, ◌++◌}
use Rattle.std.specs.List.{flat_map}
use Rattle.guest_elf.specs.File.{loads_of, pieces_of}
use Rattle.guest_elf.proofs.Steps.{loadable_after}
use Rattle.guest_elf.proofs.pieces.loads_of.Given as goal

abbrev pub invariant-loop-index : goal.invariant-loop-index
invariant-loop-index l =
    l.loads.items ++ flat_map (pieces_of l.regions.stack) (loadable_after l.file l.index) ≡ loads_of l.regions l.file

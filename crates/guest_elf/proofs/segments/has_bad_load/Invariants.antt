use Rattle.std.proofs.Common.{◌≡◌, length}
use Rattle.std.specs.List.{list_any}
use Rattle.guest_elf.specs.File.{loadable_of, is_bad_segment}
use Rattle.guest_elf.proofs.Steps.{loadable_after}
use Rattle.guest_elf.proofs.segments.has_bad_load.Given as goal

abbrev pub invariant-loop-index : goal.invariant-loop-index
invariant-loop-index l =
    list_any (is_bad_segment (length l.file)) (loadable_after l.file l.index)
    ≡ list_any (is_bad_segment (length l.file)) (loadable_of l.file)

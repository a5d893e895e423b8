use Rattle.std.proofs.Common.{◌≡◌}
use Rattle.std.specs.List.{list_any}
use Rattle.guest_elf.specs.File.{headers_of, is_interpreter}
use Rattle.guest_elf.proofs.Steps.{headers_after}
use Rattle.guest_elf.proofs.segments.has_interpreter.Given as goal

abbrev pub invariant-loop-index : goal.invariant-loop-index
invariant-loop-index l =
    list_any is_interpreter (headers_after l.file l.index) ≡ list_any is_interpreter (headers_of l.file)

use Rattle.std.proofs.Common.{◌≡◌, take, map}
use Rattle.guest_elf.specs.File.{content_in}
use Rattle.guest_elf.specs.Segments.{content_of}
use Rattle.guest_elf.proofs.reading.segments_of.Given as goal

abbrev pub invariant-loop-header : goal.invariant-loop-header
invariant-loop-header l =
    map content_of l.segments.items ≡ map (content_in l.file) (take l.header-index l.loads)

use Rattle.std.proofs.Common.{◌≡◌, map, take}
use Rattle.guest_elf.specs.declared.segment.Segment.{Segment}
use Rattle.guest_machine.specs.Spans.{span_at}
use Rattle.checkpoints.proofs.entering.spans_of.Given as goal

abbrev pub invariant-loop-segment : goal.invariant-loop-segment
invariant-loop-segment l =
    l.ranges.items ≡ map (λ (s : Segment). span_at s.vaddr s.memsz) (take l.segment-index l.segments)

use Rattle.std.proofs.Common.{◌≡◌, ℕ, ◌+◌, ◌<◌, List, [], ◌∷◌, ◌++◌, map, take, take_all, get_or, length, ap, sym, ◌∙◌}
use Rattle.std.proofs.Common.{arith}
use Rattle.std.proofs.lemmas.List.{map_push, take_more}
use Rattle.guest_elf.specs.declared.segment.Segment.{Segment}
use Rattle.guest_machine.specs.Spans.{span_at}
use Rattle.run_values.specs.declared.span.Span.{Span}
use Rattle.checkpoints.proofs.entering.spans_of.Goals as goal

abbrev at : Segment → Span
at s = span_at s.vaddr s.memsz

-- another segment
more : (old new : List Span) (segments : List Segment) (i : ℕ) (s : Segment) → i < length segments
    → s ≡ get_or segments i s → old ≡ map at (take i segments) → new ≡ old ++ at s ∷ []
    → new ≡ map at (take (i + 1) segments)
more old new segments i s h is e f =
    f ∙ ap (λ ranges. ranges ++ at s ∷ []) e ∙ sym (map_push at (take i segments) s)
    ∙ ap (λ (t : Segment). map at (take i segments ++ t ∷ [])) is
    ∙ ap (map at) (sym (take_more segments i s h))

pub loop-segment-preserved : goal.loop-segment-preserved
loop-segment-preserved c =
    more c.loop-segment.ranges.items c.push.new.self.items c.args.segments.now c.loop-segment.segment-index
    c.segment-item.result c.loop-segment-test.true c.segment-item.is c.loop-segment.invariant c.in_ok-push.ensures.items

pub returns : goal.returns
returns c =
    c.loop-segment.invariant ∙ ap (map at) (take_all c.loop-segment.segment-index c.args.segments.now (omega arith))

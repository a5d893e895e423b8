use Rattle.std.proofs.Common.{◌≡◌, ℕ, ◌∙◌, List, [], ◌∷◌, ◌||◌, ap, refl, sym, map, rules}
use Rattle.std.specs.List.{list_any}
use Rattle.std.proofs.lemmas.Result.{IfOk-weaker}
use Rattle.std.proofs.lemmas.List.Sorted.{list_any-IsPermutation, IsNonDecreasingBy-from_sort_by_key}
use Rattle.guest_elf.specs.declared.segment.Segment.{Segment}
use Rattle.guest_elf.specs.Segments.{has_address}
use Rattle.guest_machine.specs.Spans.{span_at}
use Rattle.run_values.specs.declared.span.Span.{Span}
use Rattle.checkpoints.specs.Words.{is_among, has_address as in_range}
use Rattle.checkpoints.specs.Entries.{ranges_of}
use Rattle.checkpoints.specs.declared.uses.FirstUses.{FirstUses}
use Rattle.checkpoints.proofs.uses.FirstUses.new.Goals as goal

-- the ranges of segments have the addresses of the segments
among-segments : (segments : List Segment) (a : ℕ)
    → is_among (map (λ (s : Segment). span_at s.vaddr s.memsz) segments) a
    ≡ list_any (λ segment. has_address segment a) segments
among-segments [] a = refl
among-segments (s ∷ ss) a = ap (λ b. has_address s a || b) (among-segments ss a)

pub over-requires : goal.over-requires
over-requires c =
    IsNonDecreasingBy-from_sort_by_key (λ (r : Span). r.start) _ c.sort_unstable_by_key.ensures.sorted
    (λ a r q k. search rules)

pub returns-clause-ranges : goal.returns-clause-ranges
returns-clause-ranges c =
    IfOk-weaker c.over.result _ _ (λ (uses : FirstUses) (same : ranges_of uses ≡ c.sort_unstable_by_key.new.self.items)
    (a : ℕ).
    ap (λ rs. is_among rs a) same
    ∙ sym (list_any-IsPermutation (λ (r : Span). in_range r a) _ _ c.sort_unstable_by_key.ensures.permutation)
    ∙ ap (λ rs. is_among rs a) c.in_ok-ranges.ensures
    ∙ among-segments c.args.segments.now a
    ) c.over.ensures.ranges

use Rattle.std.proofs.Common.{ap₂, ◌++◌}
use Rattle.std.specs.List.{each_same}
use Rattle.error_events.specs.CountLists.{counts_of}
use Rattle.error_events.proofs.CountSteps.{same-chunks, same-few, same-full}
use Rattle.error_events.proofs.counts.Counts.share.Goals as goal

pub invariant_of-result : goal.invariant_of-result
invariant_of-result c = record {
  full = same-full _ _ c.in_ok-chunks.ensures.cases.0 c.args.self.now.full;
  few = same-few _ _ _ _ c.in_ok-chunks.ensures.cases.0 c.args.self.now.few;
}

pub returns : goal.returns
unfolding counts_of
returns c =
    ap₂ (λ chunks last. chunks ++ last) (same-chunks _ _ c.in_ok-chunks.ensures.cases.0)
    (each_same _ _ c.in_ok-recent.ensures.cases.0)

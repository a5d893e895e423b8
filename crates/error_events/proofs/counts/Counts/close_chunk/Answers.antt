use Rattle.std.proofs.Common.{ap, ap₂, ◌∙◌, ◌++◌, append-nil}
use Rattle.std.specs.List.{each_same}
use Rattle.error_events.specs.Counts.{in_chunks}
use Rattle.error_events.specs.CountLists.{counts_of}
use Rattle.error_events.proofs.CountSteps.{chunks-append}
use Rattle.error_events.proofs.counts.Counts.close_chunk.Goals as goal

pub returns : goal.returns
unfolding counts_of
returns c =
    ap₂ (λ chunks last. in_chunks chunks ++ last) c.in_ok-push.ensures.items c.clear.ensures.items ∙ append-nil _
    ∙ chunks-append c.args.self.now.chunks.items c.in_ok-chunk.chunk
    ∙ ap (λ last. in_chunks c.args.self.now.chunks.items ++ last) (ap (λ v. v.items) c.in_ok-chunk.ensures.ok
    ∙ each_same _ _ c.in_ok-clone.ensures.cases.0)

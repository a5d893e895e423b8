use Rattle.std.proofs.Common.{ℕ, ◌+◌, List, [], ◌∷◌, ◌++◌, length, inl, inr, refl, ap, sym, ◌∙◌, subst, arith}
use Rattle.std.proofs.Math.Path.{transport}
use Rattle.std.proofs.lemmas.List.{length-append}
use Rattle.std.proofs.lemmas.Option.{slice_get-get_or, slice_get_read}
use Rattle.call_stacks.specs.declared.block.Block.{Block}
use Rattle.leak_graph.specs.declared.leak_kind.LeakKind.{LeakKind}
use Rattle.leak_search.specs.declared.record.LeakRecord.{LeakRecord}
use Rattle.leak_search.specs.Gathering.{AreRecordsBy, IsEntryBy}
use Rattle.leak_search.proofs.LiveSteps.{row_push}
use Rattle.leak_search.proofs.searching.records.Goals as goal

-- another record
more : (blocks : List Block) (kinds : List LeakKind) (entries : List LeakRecord) (n : ℕ) (last : LeakRecord)
    → IsEntryBy blocks kinds n last → AreRecordsBy blocks kinds entries n
    → AreRecordsBy blocks kinds (entries ++ last ∷ []) (n + 1)
more blocks kinds entries n last here h = record {
  len = length-append entries (last ∷ []) ∙ ap (λ m. m + 1) h.len;
  each = λ k entry at. elim (row_push entries last k entry at) [
    | inl old ↦ h.each k entry old
    | inr w ↦ transport (λ i. IsEntryBy blocks kinds (sym (w.0 ∙ h.len) i) (w.1 i)) here
  ];
}

pub loop-k-preserved : goal.loop-k-preserved
loop-k-preserved c =
    let blocks = c.args.blocks.now in
    let kinds = c.args.kinds.now in
    let k = c.loop-k.k in
    let block : Block = c.index-blocks-k.result in
    subst (λ (entries : List LeakRecord). AreRecordsBy blocks kinds entries (k + 1)) (sym c.in_ok-push.ensures.items)
    (more blocks kinds c.loop-k.entries.items k _ (record {
      block = block;
      at = slice_get_read blocks (length blocks) k block refl c.loop-k-test.true c.index-blocks-k.is;
      start = refl;
      size = refl;
      trace = refl;
      kind = slice_get-get_or kinds k _ (omega arith);
    }) c.loop-k.invariant)

use Rattle.std.proofs.Common.{◌∙◌, rules}
use Rattle.guest_heap.proofs.Rows.{grown_grid, kept_grid}
use Rattle.guest_heap.proofs.table.row.Row.grow.Goals as goal

pub returns-in_err-push-clause-same : goal.returns-in_err-push-clause-same
returns-in_err-push-clause-same g c =
    kept_grid g.P.Part.entries _ _ c.in_err-push.ensures.items ∙ c.loop-i.invariant.same

pub loop-i-preserved : goal.loop-i-preserved
loop-i-preserved g c = record {
  same = grown_grid g.P.Part.entries _ _ c.in_ok-push.ensures.items ∙ c.loop-i.invariant.same;
  grown = search rules;
}

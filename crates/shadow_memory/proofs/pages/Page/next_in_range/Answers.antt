use Rattle.std.proofs.Common.{◌∙◌, ◌+◌, refl, sym, arith}
use Rattle.shadow_memory.specs.Cells.{shadow_in}
use Rattle.shadow_memory.specs.Pages.{cells_in}
use Rattle.shadow_memory.proofs.Ranging.{value-more, values-join}
use Rattle.shadow_memory.proofs.pages.Page.next_in_range.Goals as goal

pub loop-at-preserved : goal.loop-at-preserved
loop-at-preserved c = record {
  start = omega arith;
  within = omega arith;
  aligned = omega arith;
  none =
      value-more (λ k. (cells_in c.args.self.now k).byte) (λ k. shadow_in (cells_in c.args.self.now k)) c.args.low
      c.args.high c.args.from c.loop-at.at c.loop-at.invariant.aligned c.loop-at.invariant.none
      (sym c.holds_in_range.ensures ∙ c.if-holds_in_range.false);
}

pub loop-at-preserved-then-passes_rows : goal.loop-at-preserved-then-passes_rows
loop-at-preserved-then-passes_rows c = record {
  start = omega arith;
  within = omega arith;
  aligned = omega arith;
  none =
      values-join (λ k. (cells_in c.args.self.now k).byte) (λ k. shadow_in (cells_in c.args.self.now k)) c.args.low
      c.args.high c.args.from c.loop-at.at (c.loop-at.at + 256) c.loop-at.invariant.none
      (c.if-passes_rows.ensures refl);
}

pub loop-at-preserved-then-passes_row : goal.loop-at-preserved-then-passes_row
loop-at-preserved-then-passes_row c = record {
  start = omega arith;
  within = omega arith;
  aligned = omega arith;
  none =
      values-join (λ k. (cells_in c.args.self.now k).byte) (λ k. shadow_in (cells_in c.args.self.now k)) c.args.low
      c.args.high c.args.from c.loop-at.at (c.loop-at.at + 64) c.loop-at.invariant.none
      (c.if-passes_row.ensures refl);
}

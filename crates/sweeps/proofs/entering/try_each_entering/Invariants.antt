use Rattle.std.proofs.Common.{◌≡◌, take}
use Rattle.sweeps.specs.Covered.{CoversMore}
use Rattle.sweeps.specs.Sweeps.{CountsMore}
use Rattle.sweeps.proofs.entering.try_each_entering.Given as goal

abbrev pub invariant-loop-change : goal.invariant-loop-change
invariant-loop-change l = record {
  range : l.coverage.range ≡ l.initial.coverage.range;
  same : l.scenario ≡ l.initial.scenario;
  met : CountsMore l.initial.counts l.counts l.with_output l.initial.scenario (take l.change-index l.changes)
      l.initial.out.items l.out.items;
  covers : CoversMore l.initial.scenario l.initial.coverage.range.start (take l.change-index l.changes)
      l.initial.coverage.table.items l.coverage.table.items;
}

use Rattle.std.proofs.Common.{◌≡◌, take}
use Rattle.sweeps.specs.Sweeps.{CountsMore}
use Rattle.sweeps.proofs.striking.try_changes.Given as goal

abbrev pub invariant-loop-change : goal.invariant-loop-change
invariant-loop-change l = record {
  same : l.scenario ≡ l.initial.scenario;
  here : l.counts.recall.step ≡ l.next.step;
  met : CountsMore l.initial.counts l.counts l.settings.with_output l.initial.scenario (take l.change-index l.changes)
      l.initial.out.items l.out.items;
}

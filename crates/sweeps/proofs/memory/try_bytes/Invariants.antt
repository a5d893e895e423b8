use Rattle.std.proofs.Common.{◌≡◌, ◌-◌, ◌%◌, ◌^◌, ◌<◌}
use Rattle.sweeps.specs.Accesses.{TurnsOn}
use Rattle.sweeps.proofs.memory.try_bytes.Given as goal

abbrev pub invariant-loop-word : goal.invariant-loop-word
invariant-loop-word l = record {
  within : l.from < 2 ^ 32;
  aligned : l.from % 4 ≡ 0;
  same : l.scenario ≡ l.fn.scenario;
  met : TurnsOn l.fn.scenario l.turning.step l.turning.settings.with_output 0 l.from l.fn.counts l.fn.out.items l.counts
      l.out.items;
}

abbrev pub decreases-loop-word : goal.decreases-loop-word
decreases-loop-word l = 2 ^ 32 - l.from

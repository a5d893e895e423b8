use Rattle.std.proofs.Common.{◌≡◌, ◌+◌}
use Rattle.sweeps.specs.Accesses.{TurnsOn}
use Rattle.sweeps.proofs.memory.try_word.Given as goal

abbrev pub invariant-loop-i : goal.invariant-loop-i
invariant-loop-i l = record {
  same : l.scenario ≡ l.fn.scenario;
  met : TurnsOn l.fn.scenario l.turning.step l.turning.settings.with_output l.word (l.word + l.i) l.fn.counts
      l.fn.out.items l.counts l.out.items;
}

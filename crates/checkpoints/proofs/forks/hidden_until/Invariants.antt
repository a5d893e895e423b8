use Rattle.guest_machine.specs.State.{State}
use Rattle.guest_machine.specs.Run.{pre}
use Rattle.guest_machine.specs.Shows.{Shows}
use Rattle.checkpoints.specs.Effects.{EffectShows}
use Rattle.checkpoints.specs.FirstEffects.{IsBelowFirst}
use Rattle.checkpoints.specs.Marks.{NoneUntil}
use Rattle.checkpoints.proofs.forks.hidden_until.Given as goal

abbrev pub invariant-loop-k : goal.invariant-loop-k
invariant-loop-k l = record {
  shows : (start : State) → Shows l.fn.machine (pre start l.setup l.marks l.from)
      → Shows l.machine (pre start l.setup l.marks l.k);
  none : NoneUntil l.k l.next l.marks;
  hidden : (start : State) → Shows l.fn.machine (pre start l.setup l.marks l.from)
      → IsBelowFirst (EffectShows l.effect start l.setup l.marks) l.from
      → IsBelowFirst (EffectShows l.effect start l.setup l.marks) l.k;
}

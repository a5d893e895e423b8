use Rattle.replay_session.specs.Session.{scenario_of}
use Rattle.replay_session.specs.Stages.{stage_of}
use Rattle.tries.specs.Stages.{stage_of_tries}
use Rattle.tries.specs.Tries.{LeavesBase, PlanMoves, TriedAll, gathered}
use Rattle.tries.proofs.PlanSteps.{attempts_to}
use Rattle.tries.proofs.trying.Tries.try_places.Given as goal

abbrev pub invariant-loop-i : goal.invariant-loop-i
invariant-loop-i l = record {
  base : LeavesBase (stage_of_tries l.fn.self) (stage_of_tries l.self);
  tried : TriedAll (scenario_of l.fn.self.viewer.session) l.fn.self.range
      (attempts_to l.plan.values (scenario_of l.fn.self.viewer.session).setup.input l.places.first l.i)
      (gathered (stage_of_tries l.fn.self) l.fn.text.bytes.items) (gathered (stage_of_tries l.self) l.text.bytes.items);
  moved : PlanMoves (attempts_to l.plan.values (scenario_of l.fn.self.viewer.session).setup.input l.places.first l.i)
      (stage_of l.fn.self.viewer.session) (stage_of l.self.viewer.session);
}

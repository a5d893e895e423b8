use Rattle.std.proofs.Common.{List, ℕ, [], false, refl, subst}
use Rattle.std.specs.Prelude.{is_ok}
use Rattle.replay_session.specs.Session.{scenario_of}
use Rattle.tries.specs.Plans.{attempts_of}
use Rattle.tries.specs.Stages.{reply_of_tries, stage_of_tries}
use Rattle.tries.specs.Tries.{TriedUpTo, gathered}
use Rattle.tries.proofs.PlanSteps.{if-ok}
use Rattle.tries.proofs.trying.Tries.try_plan.Goals as goal

pub returns-clause-planned : goal.returns-clause-planned
unfolding stage_of_tries reply_of_tries
returns-clause-planned c =
    let sc = scenario_of c.args.self.now.viewer.session in
    let after = c.try_places-done.new in
    record {
      all = is_ok c.try_places-done.result;
      told = after.text.bytes.items;
      tried = subst
          (λ (xs : List ℕ). TriedUpTo (is_ok c.try_places-done.result) sc c.args.self.now.range
          (attempts_of c.args.plan.now sc.setup.input) (gathered (stage_of_tries c.args.self.now) xs)
          (gathered (stage_of_tries after.self) after.text.bytes.items)) c.in-Ok.ensures
          c.try_places-done.ensures.tried;
      replies = c.end.ensures;
      last = refl;
      work = if-ok c.try_places-done.result _ c.try_places-done.ensures.work;
    }

pub returns-in_default-clause-planned : goal.returns-in_default-clause-planned
unfolding stage_of_tries reply_of_tries
returns-in_default-clause-planned c =
    let keeps = c.refuse.ensures.rejected.0.keeps in
    record {
      all = false;
      told = [];
      tried = record {
        done = [];
        covers = (attempts_of c.args.plan.now (scenario_of c.args.self.now.viewer.session).setup.input, refl);
        tried = λ i. record { seen = keeps.seen i; told = keeps.told i; text = [] };
      };
      replies = c.refuse.ensures.rejected.0.replies;
      last = keeps.last;
      work = λ all. cc;
    }

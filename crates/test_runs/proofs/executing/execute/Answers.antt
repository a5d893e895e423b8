use Rattle.std.proofs.Common.{◌∙◌, ap, inl, inr, subst, sym}
use Rattle.std.proofs.KnownBytes.{Appends-nil, Appends-trans}
use Rattle.test_runs.specs.Executions.{calls_at, step_of, written_at}
use Rattle.scenario.specs.Scenario.{Scenario}
use Rattle.test_runs.specs.Executed.{Finishes}
use Rattle.test_runs.proofs.Runs.{same-calls}
use Rattle.test_runs.proofs.executing.execute.Goals as goal

pub finish-end-requires-clause-last : goal.finish-end-requires-clause-last
finish-end-requires-clause-last g c = sym (ap (λ (s : Scenario). s.step) c.in-Ok.ensures.ok.chosen)

pub returns-in-Ok : goal.returns-in-Ok
returns-in-Ok g c opened =
    let run = c.in-Ok.ensures.ok in
    let ended = c.in-Ok.ended in
    let n = step_of c.in-Ok.execution in
    let told = c.finish-end.ensures in
    inl (
      run.done,
      n,
      ended,
      told.0,
      run.input,
      run.ends,
      (
        run.output.0,
        Appends-trans (g.E.Write.contents c.args.streams.now.err) (g.E.Write.contents c.run_all.new.streams.err)
            (g.E.Write.contents c.finish-end.new.err) (written_at run.done 2 n) told.0 run.output.1 told.1,
      ),
      subst (λ (s : Scenario). Finishes c.args.plan s ended told.0 (g.L.Write.contents c.args.log.now)
          (g.L.Write.contents c.finish-end.new.log) c.finish-end.result) run.chosen told.2,
      c.into_unknown-unknown.ensures ∙ run.at.unknown ∙ ap (λ (s : Scenario). calls_at s n) run.chosen
          ∙ same-calls run.done n n,
    )

pub returns-in-Err : goal.returns-in-Err
returns-in-Err g c opened = inr (c.in-Err.ensures.err, Appends-nil (g.L.Write.contents c.args.log.now))

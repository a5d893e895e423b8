use Rattle.std.proofs.Common.{◌≡◌, ◌∙◌, ap, arith, sym, subst, false}
use Rattle.std.proofs.lemmas.Bool.{true≢false}
use Rattle.guest_machine.specs.Streams.{sees_end}
use Rattle.guest_machine.specs.declared.setup.Setup.{Setup}
use Rattle.test_runs.specs.Executions.{held, state_at, step_of}
use Rattle.test_runs.proofs.Steps.{front-none, front-silently, if-err, unseen-after, wrote-none}
use Rattle.test_runs.proofs.execution.Execution.run_stretch.Goals.{else-waits-via-then-waits+else-sees_end}
use Rattle.test_runs.proofs.execution.Execution.run_stretch.Goals.{else-waits-via-else-waits}
use Rattle.test_runs.proofs.execution.Execution.run_stretch.Goals as goal

pub returns-in_err-quiet-clause-err : goal.returns-in_err-quiet-clause-err
returns-in_err-quiet-clause-err g c =
    if-err c.from_residual.result _
    (front-none c.args.scenario.now (step_of c.args.self)
    (held (g.O.Write.contents c.args.streams.now.out) (g.E.Write.contents c.args.streams.now.err)) c.requires.before)

pub returns-in_err-next-clause-err : goal.returns-in_err-next-clause-err
returns-in_err-next-clause-err g c =
    if-err c.from_residual-in_err-next.result _
    (front-silently c.args.scenario.now c.args.self c.in_ok-quiet.quiet
    (held (g.O.Write.contents c.args.streams.now.out) (g.E.Write.contents c.args.streams.now.err))
    (held (g.O.Write.contents c.step-2.new.streams.out) (g.E.Write.contents c.step-2.new.streams.err))
    c.in_ok-quiet.ensures c.in_err-next.ensures.err)

pub returns-clause-unseen : goal.returns-clause-unseen
returns-clause-unseen g c waits unseen =
    let sc = c.args.scenario.now in
    let mid = step_of c.in_ok-quiet.quiet in
    let before : (state_at sc mid).end_seen ≡ false = sym c.in_ok-quiet.ensures.same.end_seen ∙ unseen in
    let sees : sees_end (state_at sc mid) sc.setup ≡ false = elim c.else-waits.branch [
      | else-waits-via-then-waits+else-sees_end w ↦
          subst (λ (setup : Setup). sees_end (state_at sc mid) setup ≡ false) w.setup-then-waits.ensures
          (sym (w.sees_end.ensures (state_at sc mid) c.in_ok-quiet.ensures.on.at.shows) ∙ w.if-sees_end.false)
      | else-waits-via-else-waits w ↦ absurd (true≢false (sym waits ∙ w.if-waits.false))
    ] in
    ap (λ n. (state_at sc n).end_seen) c.in_ok-next.ensures.next ∙ unseen-after sc mid before sees

pub returns-then-quiet-step-clause-ok : goal.returns-then-quiet-step-clause-ok
returns-then-quiet-step-clause-ok g c =
    wrote-none c.args.scenario.now (step_of c.args.self) (step_of c.in_ok-quiet.quiet)
    (held (g.O.Write.contents c.args.streams.now.out) (g.E.Write.contents c.args.streams.now.err))
    c.in_ok-quiet.ensures.none

pub returns-then-rests-clause-ok : goal.returns-then-rests-clause-ok
returns-then-rests-clause-ok g c =
    wrote-none c.args.scenario.now (step_of c.args.self) (step_of c.rest.result)
    (held (g.O.Write.contents c.args.streams.now.out) (g.E.Write.contents c.args.streams.now.err))
    (λ d. c.rest.ensures.on.none d ∙ c.in_ok-quiet.ensures.none d)

pub returns-then-sees_end-clause-ok : goal.returns-then-sees_end-clause-ok
returns-then-sees_end-clause-ok g c =
    wrote-none c.args.scenario.now (step_of c.args.self) (step_of c.in_ok-quiet.quiet)
    (held (g.O.Write.contents c.args.streams.now.out) (g.E.Write.contents c.args.streams.now.err))
    c.in_ok-quiet.ensures.none

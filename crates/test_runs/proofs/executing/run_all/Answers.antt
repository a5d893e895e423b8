use Rattle.std.proofs.Common.{◌≡◌, ◌∙◌, ap, ap₂, inr, refl}
use Rattle.exit_status.proofs.EndSteps.{same-error}
use Rattle.exit_status.specs.declared.exec_ends.ExecEnd.TheVariants.{Early}
use Rattle.test_runs.specs.Executions.{held, step_of}
use Rattle.scenario.specs.Edits.{with_input}
use Rattle.scenario.specs.Scenario.{Scenario, at_step}
use Rattle.test_runs.proofs.Runs.{cut-at, cut-short, ended-first, goes-on-there, it-waits, resumed, resumes}
use Rattle.test_runs.proofs.executing.run_all.Goals as goal

pub returns-in-Some-clause-ok : goal.returns-in-Some-clause-ok
returns-in-Some-clause-ok g c =
    ended-first c.args.bounds.waits c.args.bounds.limit c.args.scenario.now c.choose.new.self
    (g.R.Read.remaining c.args.reader.now) (held (g.O.Write.contents c.args.streams.now.out)
    (g.E.Write.contents c.args.streams.now.err))
    (held (g.O.Write.contents c.run_first.new.streams.out) (g.E.Write.contents c.run_first.new.streams.err))
    c.in_ok-execution.execution c.in_ok-execution.ended c.in-Some.ended
    c.requires.marks c.in_ok-execution.ensures.ok c.in-Some.is
    (c.choose.ensures ∙ ap₂ at_step c.in_ok-execution.ensures.same c.at.ensures)

pub returns-in_err-input-clause-err : goal.returns-in_err-input-clause-err
returns-in_err-input-clause-err g c =
    let sc = c.args.scenario.now in
    let run = c.in_ok-execution.ensures.ok in
    let old = held (g.O.Write.contents c.args.streams.now.out) (g.E.Write.contents c.args.streams.now.err) in
    let new = held (g.O.Write.contents c.run_first.new.streams.out) (g.E.Write.contents c.run_first.new.streams.err) in
    let n = step_of c.in_ok-execution.execution in
    let waits = it-waits c.args.bounds.waits c.args.bounds.limit sc old new c.in_ok-execution.execution
    c.in_ok-execution.ended run c.in_default.is in
    let before = waits.1.0 in
    same-error c.from_residual-in_err-input.result (Early c.in_err-input.field-0.0) _
    c.from_residual-in_err-input.ensures.1 (inr (inr (
      waits.0,
      (n, waits.1),
      c.in_err-input.field-0.0,
      refl,
      c.in_err-input.ensures.err,
      cut-at sc n before old new run.output,
    )))

pub run_rest-requires-clause-at : goal.run_rest-requires-clause-at
run_rest-requires-clause-at g c =
    let sc = c.args.scenario.now in
    let input = c.in_ok-input.input.items in
    (goes-on-there c.moves_on.ensures c.keeps_front.ensures c.end_stays.ensures c.args.bounds.waits
    c.args.bounds.limit sc c.give.new.self c.in_ok-execution.execution c.in_ok-execution.ended input
    (held (g.O.Write.contents c.args.streams.now.out) (g.E.Write.contents c.args.streams.now.err))
    (held (g.O.Write.contents c.run_first.new.streams.out) (g.E.Write.contents c.run_first.new.streams.err))
    c.requires.empty
    c.in_ok-execution.ensures.ok c.in_default.is
    (c.give.ensures ∙ ap (λ (s : Scenario). with_input s input) c.in_ok-execution.ensures.same)).at

pub run_rest-requires-clause-within : goal.run_rest-requires-clause-within
run_rest-requires-clause-within g c =
    let sc = c.args.scenario.now in
    let input = c.in_ok-input.input.items in
    (goes-on-there c.moves_on.ensures c.keeps_front.ensures c.end_stays.ensures c.args.bounds.waits
    c.args.bounds.limit sc c.give.new.self c.in_ok-execution.execution c.in_ok-execution.ended input
    (held (g.O.Write.contents c.args.streams.now.out) (g.E.Write.contents c.args.streams.now.err))
    (held (g.O.Write.contents c.run_first.new.streams.out) (g.E.Write.contents c.run_first.new.streams.err))
    c.requires.empty
    c.in_ok-execution.ensures.ok c.in_default.is
    (c.give.ensures ∙ ap (λ (s : Scenario). with_input s input) c.in_ok-execution.ensures.same)).within

pub run_rest-requires-clause-kept : goal.run_rest-requires-clause-kept
run_rest-requires-clause-kept g c =
    let sc = c.args.scenario.now in
    let input = c.in_ok-input.input.items in
    (goes-on-there c.moves_on.ensures c.keeps_front.ensures c.end_stays.ensures c.args.bounds.waits
    c.args.bounds.limit sc c.give.new.self c.in_ok-execution.execution c.in_ok-execution.ended input
    (held (g.O.Write.contents c.args.streams.now.out) (g.E.Write.contents c.args.streams.now.err))
    (held (g.O.Write.contents c.run_first.new.streams.out) (g.E.Write.contents c.run_first.new.streams.err))
    c.requires.empty
    c.in_ok-execution.ensures.ok c.in_default.is
    (c.give.ensures ∙ ap (λ (s : Scenario). with_input s input) c.in_ok-execution.ensures.same)).kept

pub returns-in_err-execution-2-clause-err : goal.returns-in_err-execution-2-clause-err
returns-in_err-execution-2-clause-err g c =
    let sc = c.args.scenario.now in
    let done = c.give.new.self in
    let left = g.R.Read.remaining c.args.reader.now in
    let old = held (g.O.Write.contents c.args.streams.now.out) (g.E.Write.contents c.args.streams.now.err) in
    let mid = held (g.O.Write.contents c.run_first.new.streams.out) (g.E.Write.contents c.run_first.new.streams.err) in
    let new = held (g.O.Write.contents c.run_rest.new.streams.out) (g.E.Write.contents c.run_rest.new.streams.err) in
    let first = c.in_ok-execution.execution in
    let input = c.in_ok-input.input.items in
    let is : done ≡ with_input sc input = c.give.ensures
    ∙ ap (λ (s : Scenario). with_input s input) c.in_ok-execution.ensures.same in
    let it =
    resumes c.moves_on.ensures c.args.bounds.waits c.args.bounds.limit sc done first c.in_ok-execution.ended input old
    mid
    c.requires.marks c.requires.empty c.in_ok-execution.ensures.ok c.in_default.is is in
    let h = c.in_err-execution-2.ensures.err in
    same-error c.from_residual-in_err-execution-2.result c.in_err-execution-2.field-0.0 _
    c.from_residual-in_err-execution-2.ensures.1
    (cut-short c.args.bounds.waits sc done (step_of first) input left old mid new
    c.in_err-execution-2.field-0.0 it c.in_ok-input.ensures.ok is h.0 h.1)

pub returns-clause-ok : goal.returns-clause-ok
returns-clause-ok g c =
    let sc = c.args.scenario.now in
    let done = c.give.new.self in
    let left = g.R.Read.remaining c.args.reader.now in
    let rest = g.R.Read.remaining c.read_stream.new.reader in
    let old = held (g.O.Write.contents c.args.streams.now.out) (g.E.Write.contents c.args.streams.now.err) in
    let mid = held (g.O.Write.contents c.run_first.new.streams.out) (g.E.Write.contents c.run_first.new.streams.err) in
    let new = held (g.O.Write.contents c.run_rest.new.streams.out) (g.E.Write.contents c.run_rest.new.streams.err) in
    let first = c.in_ok-execution.execution in
    let last = c.in_ok-execution-2.execution in
    let input = c.in_ok-input.input.items in
    let is : done ≡ with_input sc input = c.give.ensures
    ∙ ap (λ (s : Scenario). with_input s input) c.in_ok-execution.ensures.same in
    let it =
    resumes c.moves_on.ensures c.args.bounds.waits c.args.bounds.limit sc done first c.in_ok-execution.ended input old
    mid
    c.requires.marks c.requires.empty c.in_ok-execution.ensures.ok c.in_default.is is in
    resumed c.args.bounds.waits c.args.bounds.limit sc done c.choose-2.new.self (step_of first) last
    c.in_ok-execution-2.ended input left rest old mid new it c.in_ok-input.ensures.ok is c.in_ok-execution-2.ensures.ok
    (c.choose-2.ensures ∙ ap₂ at_step c.in_ok-execution-2.ensures.same c.at-2.ensures)

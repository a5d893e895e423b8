use Rattle.std.proofs.Common.{◌≡◌, ◌∙◌, ap, inl, inr, refl, subst, Some, Option, List, ℕ}
use Rattle.exit_status.proofs.EndSteps.{same-error}
use Rattle.exit_status.specs.declared.ends.End.TheVariants.{Image as Refused}
use Rattle.exit_status.specs.declared.exec_ends.ExecEnd.TheVariants.{Early}
use Rattle.file_heaps.specs.FileHeaps.{known_of, unknown_names}
use Rattle.guest_elf.specs.Defined.{defined_in}
use Rattle.test_runs.specs.Executions.{held}
use Rattle.test_runs.specs.Executed.{Opening, WithScenario, names_in, pipes}
use Rattle.test_runs.specs.declared.executing.Plan.{Plan}
use Rattle.test_runs.proofs.Stages.{no-file, no-image, plan-is, untouched, waits-same, with-program}
use Rattle.test_runs.proofs.orders.try_exec.Goals as goal

pub returns-in_err-show-clause-err : goal.returns-in_err-show-clause-err
returns-in_err-show-clause-err g c =
    same-error c.from_residual.result c.in_err-show.field-0.0 _ c.from_residual.ensures.1 (λ names unknown. inl (
      c.in_err-show.ensures.err,
      untouched (g.R.Read.remaining c.args.reader.now)
          (held (g.O.Write.contents c.args.streams.now.out) (g.E.Write.contents c.args.streams.now.err))
          (g.L.Write.contents c.args.log.now) (g.L.Log.place c.args.log.now) c.requires.unopened,
    ))

pub returns-in_err-profile-clause-err : goal.returns-in_err-profile-clause-err
returns-in_err-profile-clause-err g c =
    same-error c.from_residual-in_err-profile.result (Early c.in_err-profile.field-0.0) _
    c.from_residual-in_err-profile.ensures.1 (λ names unknown. inr (
      c.in_ok-show.show,
      c.in_ok-show.choices.count,
      c.in_ok-show.ensures.ok.show,
      c.in_ok-show.ensures.ok.count,
      inl (
        c.in_err-profile.field-0.0,
        refl,
        inl c.in_err-profile.ensures.err,
        untouched (g.R.Read.remaining c.args.reader.now)
            (held (g.O.Write.contents c.args.streams.now.out) (g.E.Write.contents c.args.streams.now.err))
            (g.L.Write.contents c.args.log.now) (g.L.Log.place c.args.log.now) c.requires.unopened,
      ),
    ))

pub returns-in_err-file-clause-err : goal.returns-in_err-file-clause-err
returns-in_err-file-clause-err g c =
    same-error c.from_residual-in_err-file.result (Early c.in_err-file.field-0.0) _
    c.from_residual-in_err-file.ensures.1 (λ names unknown. inr (
      c.in_ok-show.show,
      c.in_ok-show.choices.count,
      c.in_ok-show.ensures.ok.show,
      c.in_ok-show.ensures.ok.count,
      inl (
        c.in_err-file.field-0.0,
        refl,
        no-file (g.F.Files.gives c.args.files.now) c.args.order.now.profile c.args.order.now.file.now
            c.in_ok-profile.profile c.in_err-file.field-0.0 c.in_ok-profile.ensures.ok c.in_err-file.ensures.err,
        untouched (g.R.Read.remaining c.args.reader.now)
            (held (g.O.Write.contents c.args.streams.now.out) (g.E.Write.contents c.args.streams.now.err))
            (g.L.Write.contents c.args.log.now) (g.L.Log.place c.args.log.now) c.requires.unopened,
      ),
    ))

pub returns-in_err-image-clause-err : goal.returns-in_err-image-clause-err
returns-in_err-image-clause-err g c =
    let fault = c.in_err-image.field-0.0 in
    same-error c.from_residual-in_err-image.result (Early (Refused fault)) _ c.from_residual-in_err-image.ensures.1
    (λ names unknown. inr (
      c.in_ok-show.show,
      c.in_ok-show.choices.count,
      c.in_ok-show.ensures.ok.show,
      c.in_ok-show.ensures.ok.count,
      inl (
        Refused fault,
        refl,
        no-image (g.F.Files.gives c.args.files.now) c.args.order.now.profile c.args.order.now.file.now
            c.in_ok-file.file.items c.deref.result.now c.in_ok-profile.profile fault c.in_ok-profile.ensures.ok
            c.in_ok-file.ensures.ok c.deref.ensures.value c.in_err-image.ensures.refused
            c.in_err-image.ensures.least,
        untouched (g.R.Read.remaining c.args.reader.now)
            (held (g.O.Write.contents c.args.streams.now.out) (g.E.Write.contents c.args.streams.now.err))
            (g.L.Write.contents c.args.log.now) (g.L.Log.place c.args.log.now) c.requires.unopened,
      ),
    ))

pub returns-in_default-clause-err : goal.returns-in_default-clause-err
returns-in_default-clause-err g c = λ names unknown. inr (
  c.in_ok-show.show,
  c.in_ok-show.choices.count,
  c.in_ok-show.ensures.ok.show,
  c.in_ok-show.ensures.ok.count,
  inr (inl (
    refl,
    untouched (g.R.Read.remaining c.args.reader.now)
        (held (g.O.Write.contents c.args.streams.now.out) (g.E.Write.contents c.args.streams.now.err))
        (g.L.Write.contents c.args.log.now) (g.L.Log.place c.args.log.now) c.requires.unopened,
  )),
)

pub returns-in_err-scenario-clause-err : goal.returns-in_err-scenario-clause-err
returns-in_err-scenario-clause-err g c =
    let same = pipes (g.R.Read.remaining c.args.reader.now)
    (held (g.O.Write.contents c.args.streams.now.out) (g.E.Write.contents c.args.streams.now.err))
    (g.L.Write.contents c.args.log.now) (g.L.Log.place c.args.log.now) in
    same-error c.from_residual-in_err-scenario.result c.in_err-scenario.field-0.0 _
    c.from_residual-in_err-scenario.ensures.1
    (λ names unknown. with-program (g.F.Files.gives c.args.files.now)
    (λ place logged. (opened : g.row.L.Denot) × (g.L.Log.place opened ≡ Some place)
    × (g.L.Write.contents opened ≡ logged)) c.args.order.now c.args.asked.now c.in_ok-show.show
    c.in_ok-show.choices c.in_ok-profile.profile c.in_ok-file.file.items c.deref.result.now c.in_ok-image.image same
    same c.in_err-scenario.field-0.0 names unknown c.in_ok-show.ensures.ok c.in_ok-profile.ensures.ok
    c.in_ok-file.ensures.ok
    c.deref.ensures.value c.in_ok-image.ensures.image
    (inl (
      c.in_err-scenario.ensures.err,
      untouched (g.R.Read.remaining c.args.reader.now)
          (held (g.O.Write.contents c.args.streams.now.out) (g.E.Write.contents c.args.streams.now.err))
          (g.L.Write.contents c.args.log.now) (g.L.Log.place c.args.log.now) c.requires.unopened,
    )))

pub returns-clause-ok : goal.returns-clause-ok
returns-clause-ok g c =
    let symbols = defined_in c.in_ok-file.file.items in
    let except = names_in c.args.asked.now.not_heap in
    let read : c.deref-2.result.now ≡ c.in_ok-file.file.items = c.deref-2.ensures.value in
    let known : c.in-Ok.heap.known ≡ known_of symbols except = c.in-Ok.ensures.known
    ∙ ap (λ bytes. known_of (defined_in bytes) c.names_in.result.now) read ∙ ap (known_of symbols) c.names_in.ensures in
    let names : c.in-Ok.heap.names.items ≡ unknown_names symbols except = c.in-Ok.ensures.names
    ∙ ap (λ bytes. unknown_names (defined_in bytes) c.names_in.result.now) read
    ∙ ap (unknown_names symbols) c.names_in.ensures in
    let opens : Opening = λ place logged. (opened : g.row.L.Denot) × (g.L.Log.place opened ≡ Some place)
    × (g.L.Write.contents opened ≡ logged) in
    let old = pipes (g.R.Read.remaining c.args.reader.now)
    (held (g.O.Write.contents c.args.streams.now.out) (g.E.Write.contents c.args.streams.now.err))
    (g.L.Write.contents c.args.log.now) (g.L.Log.place c.args.log.now) in
    let new = pipes (g.R.Read.remaining c.open_and_execute-ended.new.reader)
    (held (g.O.Write.contents c.open_and_execute-ended.new.streams.out)
    (g.E.Write.contents c.open_and_execute-ended.new.streams.err)) (g.L.Write.contents c.open_and_execute-ended.new.log)
    (g.L.Log.place c.open_and_execute-ended.new.log) in
    with-program (g.F.Files.gives c.args.files.now) opens c.args.order.now c.args.asked.now c.in_ok-show.show
    c.in_ok-show.choices c.in_ok-profile.profile c.in_ok-file.file.items c.deref.result.now c.in_ok-image.image old new
    c.open_and_execute-ended.result.end c.in-Ok.heap.names.items
    c.open_and_execute-ended.result.unknown.items c.in_ok-show.ensures.ok c.in_ok-profile.ensures.ok
    c.in_ok-file.ensures.ok c.deref.ensures.value c.in_ok-image.ensures.image
    (inr (
      c.in_ok-scenario.scenario,
      c.in_ok-scenario.ensures.ok,
      names,
      subst (λ (plan : Plan). WithScenario opens plan c.in_ok-scenario.scenario old new
          c.open_and_execute-ended.result.end
          c.open_and_execute-ended.result.unknown.items)
          (plan-is c.args.order.now c.args.asked.now c.in_ok-show.show c.in_ok-show.choices c.is_none-waits.result
          c.in-Ok.heap.known symbols c.in_ok-show.ensures.ok
          (waits-same c.is_none-waits.result c.args.order.now.input c.is_none-waits.ensures) known)
          c.open_and_execute-ended.ensures,
    ))

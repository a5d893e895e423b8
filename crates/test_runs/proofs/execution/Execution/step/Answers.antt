use Rattle.std.proofs.Common.{◌≡◌, ◌∙◌, ◌-◌, ◌^◌, ap, arith, refl, subst, sym}
use Rattle.guest_machine.specs.Calls.{argument}
use Rattle.guest_machine.specs.State.{State}
use Rattle.guest_machine.specs.Exec.{exec}
use Rattle.guest_machine.specs.Shows.{Shows}
use Rattle.guest_machine.specs.Streams.{bytes_over, needs_limits, refuses_write, unknown_call}
use Rattle.guest_machine.specs.declared.setup.Setup.{Setup}
use Rattle.shadow_memory.specs.Memories.{bytes_in}
use Rattle.test_runs.specs.Executions.{held, open_after, state_at, step_of}
use Rattle.test_runs.proofs.Steps.{front-none, front-piece, if-err, part-is, stepped, wrote-piece}
use Rattle.unknown_calls.proofs.Counting.{within-up}
use Rattle.test_runs.proofs.execution.Execution.step.Goals as goal

pub counted-refused-requires : goal.counted-refused-requires
counted-refused-requires g c = omega (
  arith,
  c.args.self.few,
  c.requires.before,
  c.step-last.ensures,
  c.step-last.type_inv,
)

pub count_unknown-requires : goal.count_unknown-requires
count_unknown-requires g c =
    within-up c.args.self.at (2 ^ 32 - 2) (omega (arith, c.requires.before, c.step-last.ensures, c.step-last.type_inv))
    c.args.self.unknown.items c.args.self.counts

pub returns-in_err-count_unknown-clause-err : goal.returns-in_err-count_unknown-clause-err
returns-in_err-count_unknown-clause-err g c =
    if-err c.from_residual.result _
    (front-none c.args.scenario.now (step_of c.args.self)
    (held (g.O.Write.contents c.args.streams.now.out) (g.E.Write.contents c.args.streams.now.err)) c.requires.before)

pub returns-in_err-machine-clause-err : goal.returns-in_err-machine-clause-err
returns-in_err-machine-clause-err g c =
    if-err c.from_residual-in_err-machine.result _
    (front-none c.args.scenario.now (step_of c.args.self)
    (held (g.O.Write.contents c.args.streams.now.out) (g.E.Write.contents c.args.streams.now.err)) c.requires.before)

pub overflow_add-result : goal.overflow_add-result
overflow_add-result g c = omega (arith, c.requires.before, c.step-last.ensures, c.step-last.type_inv)

pub returns : goal.returns
returns g c =
    let sc = c.args.scenario.now in
    let n = step_of c.args.self in
    let before = c.requires.at.shows in
    let range = c.in_ok-machine.range in
    let bytes = c.memory.ensures.bytes (exec (state_at sc n) sc.setup)
    (c.in_ok-machine.ensures.shows (state_at sc n) before) in
    let piece = c.in_ok-machine.ensures.piece (state_at sc n) before ∙ ap (λ b. bytes_over b range) (sym bytes) in
    let names = ap (λ b. b.value) (c.register-descriptor.ensures (state_at sc n) before)
    ∙ ap (argument (state_at sc n).core) c.new.ensures in
    record {
      on =
          stepped sc c.args.self _ c.refuses_write.result c.needs_limits.result c.unknown_call.result c.requires.at refl
          c.counted-refused.ensures
          (c.in_ok-is_open.ensures.line
          ∙ ap (open_after c.args.self.is_open) (part-is sc n c.register-descriptor.result.value
          (bytes_over (bytes_in c.memory.result.now) range) names piece 2)) c.in_ok-count_unknown.ensures.ok
          c.either-needs_limits.ensures
          (subst (λ (setup : Setup). (s : State) → Shows c.args.self.machine s
          → c.unknown_call.result ≡ unknown_call s setup) c.setup.ensures c.unknown_call.ensures)
          (subst (λ (setup : Setup). (s : State) → Shows c.args.self.machine s
          → c.refuses_write.result ≡ refuses_write s setup) c.setup-2.ensures c.refuses_write.ensures)
          (subst (λ (setup : Setup). (s : State) → Shows c.args.self.machine s
          → c.needs_limits.result ≡ needs_limits s setup) c.setup-3.ensures c.needs_limits.ensures)
          c.in_ok-machine.ensures.shows;
      next = refl;
      ok =
          wrote-piece sc n c.register-descriptor.result.value (bytes_over (bytes_in c.memory.result.now) range)
          (held (g.O.Write.contents c.args.streams.now.out) (g.E.Write.contents c.args.streams.now.err))
          (held (g.O.Write.contents c.speak.new.streams.out) (g.E.Write.contents c.speak.new.streams.err))
          names piece c.in_ok-is_open.ensures.ok;
      err = tt;
    }

pub returns-in_err-is_open-clause-err : goal.returns-in_err-is_open-clause-err
returns-in_err-is_open-clause-err g c =
    let sc = c.args.scenario.now in
    let n = step_of c.args.self in
    let before = c.requires.at.shows in
    let range = c.in_ok-machine.range in
    let bytes = c.memory.ensures.bytes (exec (state_at sc n) sc.setup)
    (c.in_ok-machine.ensures.shows (state_at sc n) before) in
    let piece = c.in_ok-machine.ensures.piece (state_at sc n) before ∙ ap (λ b. bytes_over b range) (sym bytes) in
    let names = ap (λ b. b.value) (c.register-descriptor.ensures (state_at sc n) before)
    ∙ ap (argument (state_at sc n).core) c.new.ensures in
    let wrote = c.in_err-is_open.ensures.err in
    if-err c.from_residual-in_err-is_open.result _
    (front-piece sc n c.register-descriptor.result.value (bytes_over (bytes_in c.memory.result.now) range)
    (held (g.O.Write.contents c.args.streams.now.out) (g.E.Write.contents c.args.streams.now.err))
    (held (g.O.Write.contents c.speak.new.streams.out) (g.E.Write.contents c.speak.new.streams.err))
    names piece c.requires.before wrote.0 wrote.1)

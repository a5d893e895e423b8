use Rattle.std.proofs.Common.{◌≡◌, IfErr, IfOk, false, refl, subst, true}
use Rattle.guest_machine.specs.Shows.{Shows}
use Rattle.guest_machine.specs.State.{State}
use Rattle.any_runs.specs.Secrets.{known_at}
use Rattle.any_verdicts.specs.Chosen.{has_position, is_revealed, secrets_of}
use Rattle.any_verdicts.specs.Verdicts.{FailsAt, FailsBefore}
use Rattle.any_verdicts.proofs.Fit.{both-err}
use Rattle.any_verdicts.proofs.Running.{fails-before}
use Rattle.any_verdicts.proofs.certifying.visit.Goals as goal

pub returns-in-Ok-clause-fails : goal.returns-in-Ok-clause-fails
unfolding secrets_of
returns-in-Ok-clause-fails c =
    let secrets = secrets_of c.args.bytes.now in
    let setup = c.args.setup.now in
    let step = c.args.step in
    let known = subst (λ r. IfOk r (λ m. (s : State) → Shows c.args.machine s
    → Shows m (known_at (is_revealed c.deref.result.now step) s))) c.in-Ok.is c.in_ok-known.ensures.known in
    both-err
    (λ verdict. (s : State) → Shows c.in-Ok.known s
    → FailsAt (has_position c.args.bytes.now.input.items) s setup step verdict)
    (λ verdict. (s : State) → Shows c.args.machine s → FailsBefore secrets s setup step verdict) c.step_any.result
    (λ verdict fails s shows.
    fails-before secrets s setup step verdict
    (fails (known_at (secrets.revealed step) s)
    (subst (λ reveals. Shows c.in-Ok.known (known_at (is_revealed reveals step) s)) c.deref.ensures.value
    (known s shows))))
    c.step_any.ensures.fails

pub returns-in-Err-clause-fails : goal.returns-in-Err-clause-fails
unfolding secrets_of
returns-in-Err-clause-fails c = λ s shows.
    let chosen = subst (λ r. IfErr r (λ addr. (s : State) → Shows c.args.machine s
    → is_revealed c.deref.result.now c.args.step addr ≡ true)) c.in-Err.is c.in_ok-known.ensures.closed in
    let shut = subst (λ r. IfErr r (λ addr. (s : State) → Shows c.args.machine s
    → (s.core.shadow addr).accessible ≡ false)) c.in-Err.is c.in_ok-known.ensures.shut in (
      refl,
      subst (λ reveals. is_revealed reveals c.args.step c.in-Err.addr ≡ true) c.deref.ensures.value (chosen s shows),
      shut s shows,
    )

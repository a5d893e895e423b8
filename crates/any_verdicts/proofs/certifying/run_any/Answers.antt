use Rattle.std.proofs.Common.{◌≡◌, IfErr, IfOk, arith, false, refl, subst, true, ℕ}
use Rattle.guest_machine.specs.Shows.{Shows}
use Rattle.guest_machine.specs.State.{State}
use Rattle.any_runs.specs.Inputs.{blurred}
use Rattle.any_runs.specs.Secrets.{IsSecretFit, faded_at, known_at, secret_before}
use Rattle.any_verdicts.specs.Chosen.{has_address, is_revealed, secrets_of}
use Rattle.any_verdicts.specs.Verdicts.{IsFitStep}
use Rattle.any_verdicts.proofs.Running.{first-before, fit-more, fit-none, next-before}
use Rattle.any_verdicts.proofs.certifying.run_any.Goals as goal

pub returns-in-Err : goal.returns-in-Err
unfolding secrets_of
returns-in-Err c = record {
  verdict = λ start shows none.
      let chosen = subst (λ r. IfErr r (λ addr. (s : State) → Shows c.args.machine s
      → has_address c.deref.result.now addr ≡ true)) c.in-Err.is c.in_ok-faded.ensures.closed in
      let shut = subst (λ r. IfErr r (λ addr. (s : State) → Shows c.args.machine s
      → (s.core.shadow addr).accessible ≡ false)) c.in-Err.is c.in_ok-faded.ensures.shut in (
        subst (λ spans. has_address spans c.in-Err.addr ≡ true) c.deref.ensures.value (chosen start shows),
        shut start shows,
      );
}

pub loop-step-init : goal.loop-step-init
unfolding secrets_of
loop-step-init c = λ start shows none.
    let secrets = secrets_of c.args.bytes.now in
    let faded = subst (λ r. IfOk r (λ m. (s : State) → Shows c.args.machine s
    → Shows m (faded_at (has_address c.deref.result.now) s))) c.in-Ok.is c.in_ok-faded.ensures.faded in (
      subst (Shows c.in-Ok.faded) (first-before secrets start c.args.setup.now)
          (subst (λ spans. Shows c.in-Ok.faded (faded_at (has_address spans) start)) c.deref.ensures.value
          (faded start shows)),
      fit-none secrets start c.args.setup.now none,
    )

pub loop-step-preserved : goal.loop-step-preserved
unfolding secrets_of
loop-step-preserved c = λ start shows none.
    let secrets = secrets_of c.args.bytes.now in
    let setup = c.args.setup.now in
    let step = c.loop-step.step in
    let so = c.loop-step.invariant start shows none in
    let next = subst (λ r. IfOk r (λ m. (s : State) → Shows c.loop-step.machine s
    → Shows m (blurred secrets.input (known_at (secrets.revealed step) s) setup))) c.in-Ok-2.is
    c.in_ok-next.ensures.next in
    let fit = subst (λ r. IfOk r (λ m. (s : State) → Shows c.loop-step.machine s
    → IsFitStep (known_at (secrets.revealed step) s) setup)) c.in-Ok-2.is c.in_ok-next.ensures.fit in (
      subst (Shows c.in-Ok-2.next) (next-before secrets start setup step) (next _ so.0),
      fit-more secrets start setup step so.1 (fit _ so.0),
    )

-- the loop has made all steps
last : (step steps : ℕ) → (P : ℕ → Type 0) → step ≡ steps → P step → P steps
last step steps P same p = subst P same p

pub returns-in-Ok-3 : goal.returns-in-Ok-3
unfolding secrets_of
returns-in-Ok-3 c = record {
  verdict = λ start shows none.
      let secrets = secrets_of c.args.bytes.now in
      let setup = c.args.setup.now in
      let end : c.loop-step.step ≡ c.args.steps = omega (arith, c.loop-step-test.false, c.loop-step.auto.step-end) in
      let so = subst (λ n. IsSecretFit secrets start setup n) end (c.loop-step.invariant start shows none).1 in
      let there = subst (λ n. Shows c.loop-step.machine (secret_before secrets start setup n)) end
      (c.loop-step.invariant start shows none).0 in
      let known = subst (λ r. IfOk r (λ m. (s : State) → Shows c.loop-step.machine s
      → Shows m (known_at (is_revealed c.deref-2.result.now c.args.steps) s))) c.in-Ok-3.is
      c.in_ok-last.ensures.known in
      let shown = subst (λ reveals. Shows c.in-Ok-3.last (known_at (is_revealed reveals c.args.steps)
      (secret_before secrets start setup c.args.steps))) c.deref-2.ensures.value (known _ there) in (
        so,
        c.has_ended.ensures _ shown,
        c.position.ensures _ shown,
      );
}

pub returns-in-Err-3 : goal.returns-in-Err-3
unfolding secrets_of
returns-in-Err-3 c = record {
  verdict = λ start shows none.
      let secrets = secrets_of c.args.bytes.now in
      let setup = c.args.setup.now in
      let end : c.loop-step.step ≡ c.args.steps = omega (arith, c.loop-step-test.false, c.loop-step.auto.step-end) in
      let there = subst (λ n. Shows c.loop-step.machine (secret_before secrets start setup n)) end
      (c.loop-step.invariant start shows none).0 in
      let chosen = subst (λ r. IfErr r (λ addr. (s : State) → Shows c.loop-step.machine s
      → is_revealed c.deref-2.result.now c.args.steps addr ≡ true)) c.in-Err-3.is c.in_ok-last.ensures.closed in
      let shut = subst (λ r. IfErr r (λ addr. (s : State) → Shows c.loop-step.machine s
      → (s.core.shadow addr).accessible ≡ false)) c.in-Err-3.is c.in_ok-last.ensures.shut in
      record {
        step = c.args.steps;
        below = omega arith;
        fit = subst (λ n. IsSecretFit secrets start setup n) end (c.loop-step.invariant start shows none).1;
        fails = (
          refl,
          subst (λ reveals. is_revealed reveals c.args.steps c.in-Err-3.addr ≡ true) c.deref-2.ensures.value
              (chosen _ there),
          shut _ there,
        );
      };
}

use Rattle.std.proofs.Common.{◌∙◌, ◌-◌, ap, subst, sym}
use Rattle.std.proofs.lemmas.Bool.{eqb-true}
use Rattle.guest_machine.specs.Exec.{exec}
use Rattle.guest_machine.specs.Shows.{Shows}
use Rattle.guest_machine.specs.State.{State}
use Rattle.guest_machine.specs.declared.setup.Touched.{Touched}
use Rattle.any_runs.specs.Inputs.{blurred, is_given}
use Rattle.any_runs.specs.Secrets.{faded_at}
use Rattle.any_verdicts.specs.Chosen.{has_position}
use Rattle.any_verdicts.specs.Verdicts.{IsFitStep, IsOpen}
use Rattle.any_verdicts.proofs.Fit.{blurred-is, both-ok, both-weaker, fit-after, fit-quietly}
use Rattle.any_verdicts.proofs.certifying.step_any.Goals as goal
use Rattle.any_verdicts.proofs.certifying.step_any.Goals.{then-has_raised+in_default, else-has_raised}

pub returns-clause-next : goal.returns-clause-next
returns-clause-next c =
    let any = has_position c.args.bytes.now.input.items in
    let setup = c.args.setup.now in
    both-weaker
    (λ m. (s : State) → Shows c.in_ok-after.after s
    → Shows m (faded_at (is_given any c.position-from.result (s.position - c.position-from.result)
    c.in_ok-after.touched.writes) s))
    (λ m. (s : State) → Shows c.args.machine s → Shows m (blurred any s setup)) c.fade_read.result
    (λ m faded s shows.
    subst (Shows m)
    (ap (λ (t : Touched). faded_at (is_given any c.position-from.result
    ((exec s setup).position - c.position-from.result) t.writes) (exec s setup)) (c.in_ok-after.ensures.touched s shows)
    ∙ blurred-is any s setup c.position-from.result (c.position-from.ensures s shows))
    (faded (exec s setup) (c.in_ok-after.ensures.shows s shows)))
    c.fade_read.ensures.faded

pub returns-clause-fit : goal.returns-clause-fit
returns-clause-fit c = both-ok (λ m. (s : State) → Shows c.args.machine s → IsFitStep s c.args.setup.now)
    c.fade_read.result (λ m s shows.
    let setup = c.args.setup.now in
    let after = c.in_ok-after.ensures.shows s shows in
    let pointer = eqb-true _ 0 (sym (c.has_stack_pointer-begins.ensures s shows) ∙ c.if-not-begins.false) in
    let left = eqb-true _ 0 (sym (c.has_stack_pointer.ensures _ after) ∙ c.if-not-has_stack_pointer.false) in
    elim c.if-has_raised.branch [
      | then-has_raised+in_default w ↦
          fit-after s setup pointer left (w.fault_of.ensures.kept w.in_default.is _ after)
          (subst (λ (t : Touched). IsOpen (exec s setup) t.reads) (c.in_ok-after.ensures.touched s shows)
          (w.fault_of.ensures.opened w.in_default.is _ after))
      | else-has_raised w ↦
          fit-quietly s setup pointer left (sym (c.in_ok-after.ensures.raised s shows) ∙ sym c.has_raised.ensures
          ∙ w.if-has_raised.false)
    ])

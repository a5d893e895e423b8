use Rattle.std.proofs.Common.{◌≡◌, ◌∙◌, ◌-◌, IfOk, Some, ap, refl, subst, subst₂, sym}
use Rattle.guest_machine.specs.Shows.{Shows}
use Rattle.guest_machine.specs.State.{State}
use Rattle.any_runs.specs.Inputs.{is_given}
use Rattle.any_runs.specs.Secrets.{faded_at}
use Rattle.any_verdicts.specs.Chosen.{given_in, has_position}
use Rattle.any_verdicts.proofs.Changes.{faded-none, faded-same}
use Rattle.any_verdicts.proofs.certifying.fade_read.Goals as goal

pub returns-in-Ok-2-clause-faded : goal.returns-in-Ok-2-clause-faded
unfolding is_given
returns-in-Ok-2-clause-faded c = λ s shows.
    let span = c.in-Some.span in
    let faded = subst (λ r. IfOk r (λ m. (s : State) → Shows c.args.after s
    → Shows m (faded_at (given_in c.deref.result.now c.args.from c.in-Ok.count span.start) s))) c.in-Ok-2.is
    c.in_ok-faded-in-Some.ensures.faded in
    let count : c.in-Ok.count ≡ s.position - c.args.from =
    c.in-Ok.ensures.1 ∙ c.saturating_sub.ensures ∙ ap (λ n. n - c.args.from) (c.position.ensures s shows) in
    subst (λ writes. Shows c.in-Ok-2.faded (faded_at (is_given (has_position c.args.bytes.now.input.items) c.args.from
    (s.position - c.args.from) writes) s)) (sym c.in-Some.is)
    (subst₂ (λ spans n. Shows c.in-Ok-2.faded (faded_at (is_given (has_position spans) c.args.from n (Some span)) s))
    c.deref.ensures.value count
    (subst (Shows c.in-Ok-2.faded)
    (faded-same (given_in c.deref.result.now c.args.from c.in-Ok.count span.start)
    (is_given (has_position c.deref.result.now) c.args.from c.in-Ok.count (Some span)) s (λ a. refl))
    (faded s shows)))

pub returns-in-None-clause-faded : goal.returns-in-None-clause-faded
unfolding is_given
returns-in-None-clause-faded c = λ s shows.
    subst (λ writes. Shows c.args.after (faded_at (is_given (has_position c.args.bytes.now.input.items) c.args.from
    (s.position - c.args.from) writes) s)) (sym c.in-None.is)
    (subst (Shows c.args.after) (sym (faded-none _ s (λ a. refl))) shows)

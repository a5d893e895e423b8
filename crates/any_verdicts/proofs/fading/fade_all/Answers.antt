use Rattle.std.proofs.Common.{◌≡◌, ◌+◌, ◌∙◌, IfErr, IfOk, [], false, get_or, subst, sym, take, refl}
use Rattle.std.proofs.lemmas.List.Folds.{list_any_more}
use Rattle.shadow_memory.specs.Ranges.{is_in}
use Rattle.run_values.specs.declared.span.Span.{Span}
use Rattle.guest_machine.specs.Shows.{Shows}
use Rattle.guest_machine.specs.State.{State}
use Rattle.any_runs.specs.Secrets.{faded_at}
use Rattle.any_verdicts.specs.Chosen.{has_address}
use Rattle.any_verdicts.proofs.Changes.{faded-more, faded-none, faded-open}
use Rattle.any_verdicts.proofs.fading.fade_all.Goals as goal

pub loop-span-init : goal.loop-span-init
loop-span-init c = λ s shows. subst (Shows c.args.machine) (sym (faded-none (has_address []) s (λ a. refl))) shows

pub returns-in-Err-clause-shut : goal.returns-in-Err-clause-shut
returns-in-Err-clause-shut c = λ s shows.
    let shut = subst (λ r. IfErr r (λ addr. (s : State) → Shows c.loop-span.machine s
    → (s.core.shadow addr).accessible ≡ false)) c.in-Err.is c.in_ok-faded.ensures.shut in
    sym (faded-open (has_address (take c.loop-span.span-index c.args.spans.now)) s c.in-Err.addr)
    ∙ shut _ (c.loop-span.invariant s shows)

pub loop-span-preserved : goal.loop-span-preserved
loop-span-preserved c = λ s shows.
    let i = c.loop-span.span-index in
    let span = get_or c.args.spans.now i (record { start = 0; len = 0 }) in
    let faded = subst (λ r. IfOk r (λ m. (s : State) → Shows c.loop-span.machine s
    → Shows m (faded_at (is_in span.start span.len) s))) c.in-Ok.is c.in_ok-faded.ensures.faded in
    subst (Shows c.in-Ok.faded)
    (faded-more (is_in span.start span.len) (has_address (take i c.args.spans.now))
    (has_address (take (i + 1) c.args.spans.now)) s
    (λ a. list_any_more (λ (span : Span). is_in span.start span.len a) c.args.spans.now i _ c.loop-span-test.true))
    (faded _ (c.loop-span.invariant s shows))

use Rattle.std.proofs.Common.{◌≡◌, ◌+◌, ◌==◌, ◌&&◌, ◌||◌, ◌<◌, ◌∙◌, IfErr, IfOk, List, [], ℕ, ap, false}
use Rattle.std.proofs.Common.{get_or, length, refl, subst, subst₂, sym, take, true}
use Rattle.std.proofs.lemmas.Bool.{eq-eqb, ne_eqb}
use Rattle.std.proofs.lemmas.List.Folds.{list_any_more}
use Rattle.shadow_memory.specs.Ranges.{is_in}
use Rattle.guest_machine.specs.Shows.{Shows}
use Rattle.guest_machine.specs.State.{State}
use Rattle.any_runs.specs.Secrets.{known_at}
use Rattle.any_verdicts.specs.Chosen.{is_revealed}
use Rattle.any_verdicts.specs.declared.any_bytes.Reveal.{Reveal}
use Rattle.any_verdicts.proofs.Changes.{known-more, known-none, known-open, known-same, or-none}
use Rattle.any_verdicts.proofs.fading.know_all.Goals as goal
use Rattle.any_verdicts.proofs.fading.know_all.Goals.{then-reveal-step+in_ok-known+in-Ok, else-reveal-step}

-- the reveal at an index
abbrev one : List Reveal → ℕ → Reveal
one reveals i = get_or reveals i (record { step = 0; span = record { start = 0; len = 0 } })

pub loop-reveal-init : goal.loop-reveal-init
loop-reveal-init c = λ s shows.
    subst (Shows c.args.machine) (sym (known-none (is_revealed [] c.args.step) s (λ a. refl))) shows

pub returns-in-Err-clause-shut : goal.returns-in-Err-clause-shut
returns-in-Err-clause-shut c = λ s shows.
    let shut = subst (λ r. IfErr r (λ addr. (s : State) → Shows c.loop-reveal.machine s
    → (s.core.shadow addr).accessible ≡ false)) c.in-Err.is c.in_ok-known.ensures.shut in
    sym (known-open (is_revealed (take c.loop-reveal.reveal-index c.args.reveals.now) c.args.step) s c.in-Err.addr)
    ∙ shut _ (c.loop-reveal.invariant s shows)

-- the test of what is revealed so far and next
next-one : (reveals : List Reveal) (step i a : ℕ) → i < length reveals
    → is_revealed (take (i + 1) reveals) step a
    ≡ (is_revealed (take i reveals) step a
    || (((one reveals i).step == step) && is_in (one reveals i).span.start (one reveals i).span.len a))
next-one reveals step i a within =
    list_any_more (λ (r : Reveal). (r.step == step) && is_in r.span.start r.span.len a) reveals i _ within

pub loop-reveal-preserved : goal.loop-reveal-preserved
loop-reveal-preserved c =
    let i = c.loop-reveal.reveal-index in
    let reveals = c.args.reveals.now in
    let reveal = one reveals i in
    elim c.if-reveal-step.branch [
      | then-reveal-step+in_ok-known+in-Ok w ↦ λ s shows.
          let known = subst (λ r. IfOk r (λ m. (s : State) → Shows c.loop-reveal.machine s
          → Shows m (known_at (is_in reveal.span.start reveal.span.len) s))) w.in-Ok.is w.in_ok-known.ensures.known in
          let yes : (reveal.step == c.args.step) ≡ true = eq-eqb reveal.step c.args.step w.if-reveal-step.true in
          subst₂ Shows (sym w.machine-is)
          (known-more (is_in reveal.span.start reveal.span.len) (is_revealed (take i reveals) c.args.step)
          (is_revealed (take (i + 1) reveals) c.args.step) s
          (λ a. next-one reveals c.args.step i a c.loop-reveal-test.true
          ∙ ap (λ b. is_revealed (take i reveals) c.args.step a
          || (b && is_in reveal.span.start reveal.span.len a)) yes))
          (known _ (c.loop-reveal.invariant s shows))
      | else-reveal-step w ↦ λ s shows.
          let no : (reveal.step == c.args.step) ≡ false = ne_eqb reveal.step c.args.step w.if-reveal-step.false in
          subst₂ Shows (sym w.machine-is)
          (known-same (is_revealed (take i reveals) c.args.step) (is_revealed (take (i + 1) reveals) c.args.step) s
          (λ a. sym (next-one reveals c.args.step i a c.loop-reveal-test.true
          ∙ ap (λ b. is_revealed (take i reveals) c.args.step a
          || (b && is_in reveal.span.start reveal.span.len a)) no
          ∙ or-none (is_revealed (take i reveals) c.args.step a))))
          (c.loop-reveal.invariant s shows)
    ]

use Rattle.std.proofs.Common.{◌≡◌, ◌+◌, ◌-◌, ◌∙◌, IfErr, IfOk, ap, ◌<◌, ◌^◌, arith, false, subst, subst₂, sym, true}
use Rattle.shadow_memory.specs.Ranges.{above, is_in}
use Rattle.guest_machine.specs.Shows.{Shows}
use Rattle.guest_machine.specs.State.{State}
use Rattle.any_runs.specs.Secrets.{faded_at}
use Rattle.any_verdicts.specs.Chosen.{given_in, has_position}
use Rattle.any_verdicts.proofs.Changes.{faded-open}
use Rattle.any_verdicts.proofs.Given.{given-less, given-more, given-none, one-in}
use Rattle.any_verdicts.proofs.fading.fade_given.Goals as goal
use Rattle.any_verdicts.proofs.fading.fade_given.Goals.{then-has_position+in_ok-faded+in-Ok, else-has_position}

pub loop-i-init : goal.loop-i-init
loop-i-init c = λ s shows.
    subst (Shows c.args.machine) (sym (given-none c.args.spans.now c.args.from c.args.start s)) shows

pub returns-in-Err-clause-shut : goal.returns-in-Err-clause-shut
returns-in-Err-clause-shut c = λ s shows.
    let there = c.loop-i.invariant s shows in
    let closed = subst (λ r. IfErr r (λ addr. (s : State) → Shows c.loop-i.machine s
    → is_in (above c.args.start c.loop-i.i) 1 addr ≡ true)) c.in-Err.is c.in_ok-faded.ensures.closed in
    let shut = subst (λ r. IfErr r (λ addr. (s : State) → Shows c.loop-i.machine s
    → (s.core.shadow addr).accessible ≡ false)) c.in-Err.is c.in_ok-faded.ensures.shut in
    let addr = one-in (above c.args.start c.loop-i.i) c.in-Err._addr (omega arith) (closed _ there) in
    let is : c.args.from + c.from.result - c.args.from ≡ c.loop-i.i = omega (arith, c.from.ensures) in
    subst (λ i. (s.core.shadow (above c.args.start i)).accessible ≡ false) (sym is)
    (subst (λ a. (s.core.shadow a).accessible ≡ false) addr
    (sym (faded-open (given_in c.args.spans.now c.args.from c.loop-i.i c.args.start) s c.in-Err._addr) ∙ shut _ there))

pub loop-i-preserved : goal.loop-i-preserved
loop-i-preserved c =
    let few : c.loop-i.i < 2 ^ 32 = omega (arith, c.loop-i-test.true, c.ranges.count.fits) in
    let told : c.has_position.result ≡ has_position c.args.spans.now (c.args.from + c.loop-i.i) =
    c.has_position.ensures ∙ ap (λ i. has_position c.args.spans.now (c.args.from + i)) c.from.ensures in
    elim c.if-has_position.branch [
      | then-has_position+in_ok-faded+in-Ok w ↦ λ s shows.
          let faded = subst (λ r. IfOk r (λ m. (s : State) → Shows c.loop-i.machine s
          → Shows m (faded_at (is_in (above c.args.start c.loop-i.i) 1) s))) w.in-Ok.is w.in_ok-faded.ensures.faded in
          subst₂ Shows (sym w.machine-is)
          (given-more c.args.spans.now c.args.from c.args.start c.loop-i.i s c.ranges.start.fits few
          (sym told ∙ w.if-has_position.true))
          (faded _ (c.loop-i.invariant s shows))
      | else-has_position w ↦ λ s shows.
          subst₂ Shows (sym w.machine-is)
          (given-less c.args.spans.now c.args.from c.args.start c.loop-i.i s c.ranges.start.fits few
          (sym told ∙ w.if-has_position.false))
          (c.loop-i.invariant s shows)
    ]

use Rattle.std.proofs.Common.{◌+◌, Bool, refl, arith, subst}
use Rattle.guest_machine.specs.State.{State}
use Rattle.guest_machine.specs.Shows.{Shows}
use Rattle.guest_machine.specs.Run.{pre}
use Rattle.checkpoints.specs.Effects.{EffectShows, Tells}
use Rattle.checkpoints.proofs.MarkSteps.{pre-more, shows-along}
use Rattle.checkpoints.proofs.TrailSteps.{hidden-lower}
use Rattle.checkpoints.proofs.forks.hidden_until.Goals as goal

pub loop-k-init : goal.loop-k-init
loop-k-init c = record {
  shows = λ start h. h;
  none = c.next_step-next.ensures;
  hidden = λ start h hidden. hidden;
}

pub loop-k-preserved : goal.loop-k-preserved
loop-k-preserved c =
    let inv = c.loop-k.invariant in
    let k = c.loop-k.k in
    let setup = c.args.setup.now in
    let marks = c.args.marks.now in
    let next : (start : State) → Shows c.args.machine (pre start setup marks c.args.from)
    → Shows c.in_ok-stepped.stepped (pre start setup marks (k + 1)) =
    λ start h. shows-along _ _ _ _ refl (pre-more start setup marks k)
    (c.in_ok-stepped.ensures.shows _ (c.in_ok-marked.ensures.shows _ (inv.shows start h))) in
    record {
      shows = next;
      none = c.in_ok-marked.ensures.next;
      hidden = λ start h hidden.
          subst (λ (b : Bool). Tells (EffectShows c.args.effect start setup marks) (k + 1) b) c.if-has_shown_in.false
          (c.has_shown_in.ensures start setup marks (k + 1) (next start h));
    }

pub returns-then-has_shown_in-clause-last : goal.returns-then-has_shown_in-clause-last
returns-then-has_shown_in-clause-last c start h hidden =
    let inv = c.loop-k.invariant in
    let k = c.loop-k.k in
    let setup = c.args.setup.now in
    let marks = c.args.marks.now in
    let shown = subst (λ (b : Bool). Tells (EffectShows c.args.effect start setup marks) (k + 1) b)
    c.if-has_shown_in.true
    (c.has_shown_in.ensures start setup marks (k + 1) (shows-along _ _ _ _ refl (pre-more start setup marks k)
    (c.in_ok-stepped.ensures.shows _ (c.in_ok-marked.ensures.shows _ (inv.shows start h))))) in
    record {
      within = omega arith;
      hidden = inv.hidden start h hidden;
      next = λ l none. shown none;
    }

pub returns-clause-last : goal.returns-clause-last
returns-clause-last c start h hidden = record {
  within = omega arith;
  hidden =
      hidden-lower (EffectShows c.args.effect start c.args.setup.now c.args.marks.now) c.args.to c.loop-k.k
      (omega arith) (c.loop-k.invariant.hidden start h hidden);
  next = λ l hidden. absurd (omega arith);
}

use Rattle.std.proofs.Common.{◌≡◌, ℕ, ◌+◌, ◌∙◌, Option, sym, refl, arith, subst}
use Rattle.guest_machine.specs.Run.{pre, post}
use Rattle.checkpoints.specs.Searches.{Hits, IsLast}
use Rattle.checkpoints.proofs.MarkSteps.{pre-more, shows-along, one-turn}
use Rattle.checkpoints.proofs.Halted.{marked-runs}
use Rattle.checkpoints.proofs.SearchSteps.{last-more, last-further, halted-unhit}
use Rattle.checkpoints.proofs.searches.last_from.Goals as goal

pub returns-then-not-is_running-clause-last : goal.returns-then-not-is_running-clause-last
returns-then-not-is_running-clause-last c start h =
    let inv = c.loop-k.invariant in
    let setup = c.args.setup.now in
    let marks = c.args.marks.now in
    let halted = sym (c.if-not-is_running.ensures _ (inv.shows start h)) in
    last-further (Hits c.args.sought start setup marks) c.args.from c.loop-k.k c.args.end c.loop-k.last (omega arith)
    (λ j after high. halted-unhit c.stays_halted.ensures c.args.sought start setup marks c.loop-k.k halted j after)
    (inv.last start h)

pub returns-in_err-stepped-clause-metered : goal.returns-in_err-stepped-clause-metered
returns-in_err-stepped-clause-metered c = omega (arith, c.loop-k.invariant.meter, c.in_err-stepped.ensures.unmoved)

pub loop-k-preserved : goal.loop-k-preserved
unfolding Hits post
loop-k-preserved c =
    let inv = c.loop-k.invariant in
    let k = c.loop-k.k in
    let setup = c.args.setup.now in
    let marks = c.args.marks.now in
    record {
      shows = λ start h.
          shows-along _ _ _ _ refl (pre-more start setup marks k)
          (c.in_ok-stepped.ensures.shows _ (c.in_ok-marked.ensures.shows _ (inv.shows start h)));
      none = c.in_ok-marked.ensures.next;
      last = λ start h.
          let here = inv.shows start h in
          let runs = marked-runs k marks (pre start setup marks k) ∙ sym (c.if-not-is_running.ensures _ here) in
          let P : Option ℕ → Type 0 = λ last. IsLast (Hits c.args.sought start setup marks) c.args.from (k + 1) last in
          subst P (sym c.last_hit-last.ensures)
          (last-more (Hits c.args.sought start setup marks) c.args.from k c.in_ok-stepped.is_hit c.loop-k.last
          (omega arith)
          (c.in_ok-stepped.ensures.hit _ (c.in_ok-marked.ensures.shows _ here) runs) (inv.last start h));
      meter =
          one-turn c.args.meter.now c.loop-k.meter _ c.args.from k (omega arith) inv.meter
          c.in_ok-stepped.ensures.meter;
    }

pub returns-clause-last : goal.returns-clause-last
returns-clause-last c start h =
    let end : c.loop-k.k ≡ c.args.end = omega arith in
    let P : ℕ → Type 0 = λ k. IsLast (Hits c.args.sought start c.args.setup.now c.args.marks.now) c.args.from k
    c.loop-k.last in
    subst P end (c.loop-k.invariant.last start h)

pub returns-clause-price : goal.returns-clause-price
returns-clause-price c = omega (arith, c.loop-k.invariant.meter)

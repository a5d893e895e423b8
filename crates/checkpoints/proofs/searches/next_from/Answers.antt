use Rattle.std.proofs.Common.{◌≡◌, ℕ, ◌+◌, ◌-◌, ◌<◌, ◌≤◌, min, sym, ◌∙◌, refl, arith, inl, inr}
use Rattle.std.proofs.lemmas.Bool.{cases_lt}
use Rattle.guest_machine.specs.Run.{pre, post}
use Rattle.checkpoints.specs.Searches.{Hits}
use Rattle.checkpoints.proofs.MarkSteps.{pre-more, shows-along, one-turn}
use Rattle.checkpoints.proofs.Halted.{marked-runs}
use Rattle.checkpoints.proofs.SearchSteps.{not-told, none-longer, halted-unhit}
use Rattle.checkpoints.proofs.searches.next_from.Goals as goal

pub returns-then-not-is_running-clause-next : goal.returns-then-not-is_running-clause-next
returns-then-not-is_running-clause-next c start h j low high =
    let inv = c.loop-k.invariant in
    let halted = sym (c.if-not-is_running.ensures _ (inv.shows start h)) in
    elim (cases_lt j c.loop-k.k) [
      | inl before ↦ inv.unhit start h j low before
      | inr after ↦ halted-unhit c.stays_halted.ensures c.args.sought start c.args.setup.now c.args.marks.now c.loop-k.k
          halted j after
    ]

pub returns-then-is_hit-clause-next : goal.returns-then-is_hit-clause-next
unfolding Hits post
returns-then-is_hit-clause-next c start h =
    let inv = c.loop-k.invariant in
    let k = c.loop-k.k in
    let here = inv.shows start h in
    let runs = marked-runs k c.args.marks.now (pre start c.args.setup.now c.args.marks.now k)
    ∙ sym (c.if-not-is_running.ensures _ here) in
    let told = c.in_ok-stepped.ensures.hit _ (c.in_ok-marked.ensures.shows _ here) runs in
    (omega arith, omega arith, told.0 c.if-is_hit.true, inv.unhit start h)

pub loop-k-preserved : goal.loop-k-preserved
unfolding Hits post
loop-k-preserved c =
    let inv = c.loop-k.invariant in
    let k = c.loop-k.k in
    let setup = c.args.setup.now in
    let marks = c.args.marks.now in
    record {
      shows = λ start h.
          shows-along _ _ _ _ refl (pre-more start setup marks k)
          (c.in_ok-stepped.ensures.shows _ (c.in_ok-marked.ensures.shows _ (inv.shows start h)));
      none = c.in_ok-marked.ensures.next;
      unhit = λ start h.
          let here = inv.shows start h in
          let runs = marked-runs k marks (pre start setup marks k) ∙ sym (c.if-not-is_running.ensures _ here) in
          none-longer (Hits c.args.sought start setup marks) c.args.from k (inv.unhit start h)
          (not-told _ _ c.if-is_hit.false (c.in_ok-stepped.ensures.hit _ (c.in_ok-marked.ensures.shows _ here) runs));
      within = omega arith;
      meter =
          one-turn c.args.meter.now c.loop-k.meter _ c.args.from k (omega arith) inv.meter
          c.in_ok-stepped.ensures.meter;
    }

pub returns-clause-price : goal.returns-clause-price
returns-clause-price c = omega (arith, c.loop-k.invariant.within, c.loop-k.invariant.meter)

-- what a search of some steps is for
steps-price : (old now from k end : ℕ) → k < end → now ≡ min (old + (k - from)) 18446744073709551615
    → now ≤ old + (end - from)
steps-price old now from k end l e = omega arith

hit-price : (old now new from k : ℕ) → from ≤ k → now ≡ min (old + (k - from)) 18446744073709551615
    → new ≡ min (now + 1) 18446744073709551615 → new ≤ old + (k + 1 - from)
hit-price old now new from k l e f = omega arith

pub returns-then-not-is_running-clause-price : goal.returns-then-not-is_running-clause-price
returns-then-not-is_running-clause-price c =
    steps-price c.args.meter.now c.loop-k.meter c.args.from c.loop-k.k c.args.end c.loop-k-test.true
    c.loop-k.invariant.meter

pub returns-then-is_hit-clause-price : goal.returns-then-is_hit-clause-price
returns-then-is_hit-clause-price c =
    hit-price c.args.meter.now c.loop-k.meter c.step_watching.new.meter c.args.from c.loop-k.k (omega arith)
    c.loop-k.invariant.meter c.in_ok-stepped.ensures.meter

pub returns-clause-next : goal.returns-clause-next
returns-clause-next c start h j low high = c.loop-k.invariant.unhit start h j low (omega arith)

use Rattle.std.proofs.Common.{◌≡◌, ◌+◌, ◌∙◌, ap, arith, length, refl, rules, sym, vec_len}
use Rattle.guest_machine.specs.Run.{post}
use Rattle.checkpoints.proofs.MarkSteps.{pre-more, shows-along}
use Rattle.checkpoints.proofs.CompareSteps.{all-found, all-halted, all-passed, found-more, none-yet}
use Rattle.checkpoints.proofs.Listing.{still-few}
use Rattle.checkpoints.proofs.compares.compares_from.Goals as goal

pub loop-k-init : goal.loop-k-init
loop-k-init c = record {
  shows = λ start h. h;
  none = c.next_step-next.ensures;
  within = omega arith;
  few = omega (arith, ap length c.new-found.ensures.items);
  found = λ start h.
      c.new-found.ensures.items
      ∙ sym (none-yet start c.args.setup.now c.args.marks.now c.args.from c.args.from (omega arith));
}

pub loop-k-preserved : goal.loop-k-preserved
unfolding post
loop-k-preserved c =
    let inv = c.loop-k.invariant in
    let k = c.loop-k.k in
    let setup = c.args.setup.now in
    let marks = c.args.marks.now in
    let long : vec_len c.push_if.new.found ≡ length c.push_if.new.found.items = search rules in
    record {
      shows = λ start h.
          shows-along _ _ _ _ refl (pre-more start setup marks k)
          (c.in_ok-stepped.ensures.shows _ (c.in_ok-marked.ensures.shows _ (inv.shows start h)));
      none = c.in_ok-marked.ensures.next;
      within = omega arith;
      few =
          still-few _ _ c.compare_at.result c.args.most c.in_ok-push_if.ensures inv.few
          (λ full. c.if-len-most.false (c.len.ensures ∙ long ∙ full));
      found = λ start h.
          found-more start setup marks c.args.from k _ _ _ (omega arith) c.in_ok-push_if.ensures
          (c.compare_at.ensures _ (c.in_ok-marked.ensures.shows _ (inv.shows start h))) (inv.found start h);
    }

pub returns-then-not-is_running : goal.returns-then-not-is_running
returns-then-not-is_running c start h =
    let inv = c.loop-k.invariant in
    let halted = sym (c.if-not-is_running.ensures _ (inv.shows start h)) in
    all-halted start c.args.setup.now c.args.marks.now c.args.from c.stays_halted.ensures c.loop-k.k (omega arith)
    halted c.args.to c.args.most _ (omega arith) inv.few (inv.found start h)

pub returns-then-len-most : goal.returns-then-len-most
unfolding post
returns-then-len-most c start h =
    let inv = c.loop-k.invariant in
    let setup = c.args.setup.now in
    let marks = c.args.marks.now in
    let long : vec_len c.push_if.new.found ≡ length c.push_if.new.found.items = search rules in
    all-found start setup marks c.args.from (c.loop-k.k + 1) c.args.to c.args.most _ (omega arith) (omega arith)
    (sym long ∙ sym c.len.ensures ∙ c.if-len-most.true)
    (found-more start setup marks c.args.from c.loop-k.k _ _ _ (omega arith) c.in_ok-push_if.ensures
    (c.compare_at.ensures _ (c.in_ok-marked.ensures.shows _ (inv.shows start h))) (inv.found start h))

pub returns : goal.returns
returns c start h =
    let inv = c.loop-k.invariant in
    all-passed start c.args.setup.now c.args.marks.now c.args.from c.loop-k.k c.args.to c.args.most _ (omega arith)
    inv.within inv.few (inv.found start h)

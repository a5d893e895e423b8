use Rattle.std.proofs.Common.{◌≡◌, ◌≤◌, ◌+◌, ◌∙◌, ap, arith, length, min, refl, sym}
use Rattle.guest_machine.specs.Run.{pre}
use Rattle.checkpoints.specs.Outputs.{part}
use Rattle.checkpoints.proofs.MarkSteps.{pre-more, shows-along}
use Rattle.checkpoints.proofs.OutputSteps.{marks-output, part-later, part-none}
use Rattle.checkpoints.proofs.outputs.collect.Goals as goal

pub loop-k-init : goal.loop-k-init
loop-k-init c = record {
  shows = λ start h. h;
  none = c.next_step-next.ensures;
  part = λ start h early. c.new-bytes.ensures.items ∙ sym (part-none c.args.wanted.range _ early);
}

pub loop-k-preserved : goal.loop-k-preserved
loop-k-preserved c =
    let inv = c.loop-k.invariant in
    let k = c.loop-k.k in
    let setup = c.args.setup.now in
    let marks = c.args.marks.now in
    record {
      shows = λ start h.
          shows-along _ _ _ _ refl (pre-more start setup marks k)
          (c.in_ok-machine.ensures.shows _ (c.in_ok-marked.ensures.shows _ (inv.shows start h)));
      none = c.in_ok-marked.ensures.next;
      part = λ start h early.
          c.in_ok-machine.ensures.part _ (c.in_ok-marked.ensures.shows _ (inv.shows start h))
          (inv.part start h early
          ∙ ap (part c.args.wanted.range) (sym (marks-output k marks (pre start setup marks k))))
          ∙ ap (λ s. part c.args.wanted.range s.output) (sym (pre-more start setup marks k));
    }

pub returns-then-output_len-end : goal.returns-then-output_len-end
returns-then-output_len-end c start h early is =
    let inv = c.loop-k.invariant in
    let k = c.loop-k.k in
    let setup = c.args.setup.now in
    let marks = c.args.marks.now in
    let full : min (c.args.wanted.range.start + c.args.wanted.range.len)
    (length (pre start setup marks c.args.to).output) ≤ length (pre start setup marks k).output =
    omega (arith, c.if-output_len-end.true, c.output_len.ensures _ (inv.shows start h), is) in
    inv.part start h early
    ∙ part-later c.writes_what_it_reads.ensures start setup marks c.args.wanted.range k c.args.to (omega arith) full

pub returns : goal.returns
returns c start h early is =
    let end : c.loop-k.k ≡ c.args.to = omega arith in
    c.loop-k.invariant.part start h early
    ∙ ap (λ k. part c.args.wanted.range (pre start c.args.setup.now c.args.marks.now k).output) end

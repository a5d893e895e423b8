use Rattle.std.proofs.Common.{◌≡◌, ◌+◌, ◌≤◌, ◌∙◌, arith, refl, subst, sym}
use Rattle.guest_machine.specs.Run.{pre, post}
use Rattle.guest_machine.specs.Shows.{Shows}
use Rattle.checkpoints.specs.Extending.{Extends}
use Rattle.checkpoints.specs.Marks.{NoneBetween}
use Rattle.checkpoints.proofs.ExtendSteps.{extends-halted, extends-none, extends-then}
use Rattle.checkpoints.proofs.MarkSteps.{none-later}
use Rattle.checkpoints.proofs.sides.enter_sides.Goals as goal

pub loop-at-init : goal.loop-at-init
loop-at-init c = record {
  shows = λ start h. h;
  none = c.next_step-next.ensures;
  later = omega arith;
  within = c.requires.forward;
  rows = refl;
  extends = λ start h. extends-none start c.args.setup.now c.args.marks.now c.args.rows.first c.args.rows.apart
      c.args.from _;
}

pub loop-at-preserved : goal.loop-at-preserved
unfolding post
loop-at-preserved c =
    let inv = c.loop-at.invariant in
    let at = c.loop-at.at in
    let quiet = c.quiet_until-end.ensures in
    let marks = c.args.marks.now in
    let next = c.in_ok-marked.ensures.next in
    let done = c.in_ok-stepped.ensures in
    let none : NoneBetween at c.quiet_until-end.result marks = λ k low high. next k (omega (arith, low))
    (quiet.quiet k high (omega (arith, low))) in
    let on : at + 1 ≤ c.in_ok-stepped.reached = omega (arith, done.on) in
    record {
      shows = λ start h. done.shows start marks none (c.in_ok-marked.ensures.shows _ (inv.shows start h));
      none = none-later _ _ _ marks on next;
      later = omega (arith, inv.later, on);
      within = omega (arith, done.within, quiet.within);
      rows = done.rows ∙ inv.rows;
      extends = λ start h. extends-then start c.args.setup.now marks c.args.rows.first c.args.rows.apart c.args.from
          at _ _ _ _ inv.rows (inv.extends start h)
          (done.extends start marks none (c.in_ok-marked.ensures.shows _ (inv.shows start h)));
    }

pub returns-then-not-is_running-clause-extends : goal.returns-then-not-is_running-clause-extends
returns-then-not-is_running-clause-extends c start h =
    let inv = c.loop-at.invariant in
    let at = c.loop-at.at in
    let setup = c.args.setup.now in
    let marks = c.args.marks.now in
    let halted = sym (c.if-not-is_running.ensures _ (inv.shows start h)) in
    extends-then start setup marks c.args.rows.first c.args.rows.apart c.args.from at c.args.to _ _ _ inv.rows
    (inv.extends start h)
    (extends-halted start setup marks c.args.rows.first c.args.rows.apart c.stays_halted.ensures at c.args.to _
    (omega arith) halted)

pub returns : goal.returns
returns c =
    let inv = c.loop-at.invariant in
    let setup = c.args.setup.now in
    let marks = c.args.marks.now in
    let all : c.loop-at.at ≡ c.args.to = omega arith in record {
      shows = λ start h. subst (λ n. Shows c.loop-at.machine (pre start setup marks n)) all (inv.shows start h);
      rows = inv.rows;
      extends = λ start h. subst (λ n. Extends start setup marks c.args.from n c.args.rows.first c.args.rows.apart
          c.args.table.now.items c.loop-at.table.items) all (inv.extends start h);
    }

use Rattle.std.proofs.Common.{◌≡◌, ℕ, ◌+◌, ◌-◌, ◌*◌, ◌≤◌, ◌∙◌, List, arith, inl, inr, subst}
use Rattle.std.proofs.lemmas.Bool.{cases_lt}
use Rattle.guest_machine.specs.State.{State}
use Rattle.guest_machine.specs.Run.{post, pre}
use Rattle.guest_machine.specs.Shows.{Shows}
use Rattle.run_values.specs.declared.alteration.Alteration.{Alteration}
use Rattle.checkpoints.specs.Extending.{Leaves}
use Rattle.checkpoints.specs.Marks.{NoneBetween}
use Rattle.checkpoints.proofs.ExtendSteps.{extends-then}
use Rattle.checkpoints.proofs.QuietSteps.{unmarked, unmarked-before}
use Rattle.checkpoints.proofs.straight.pass_words.Goals as goal

-- from a step on there are no marks between either
between : (from at end : ℕ) (marks : List Alteration) → from ≤ at → at ≤ end → NoneBetween from end marks
    → NoneBetween at (at + (end - at)) marks
between from at end marks later within none k low high =
    none k (omega (arith, later, low)) (omega (arith, within, high))

pub returns-then-not-is_away-clause-shows : goal.returns-then-not-is_away-clause-shows
returns-then-not-is_away-clause-shows c start marks none h later =
    let inv = c.loop-at.invariant in
    let at = c.loop-at.at in
    let setup = c.args.setup.now in
    let count = c.in_ok-stepped.count in
    let stepped = c.in_ok-stepped.stepped in
    let straight = c.if-not-is_away.true in
    let till = between c.args.from at c.args.end marks inv.later inv.within none in
    let marked = inv.marked start marks none h c.loop-at-test.true in
    elim (cases_lt 0 count) [
      | inl some ↦ c.in_ok-stepped.ensures.shows start marks at till marked straight some
      | inr none_made ↦ (
          let here : at ≡ at + count = omega (arith, none_made) in
          subst (λ n. Shows stepped (pre start setup marks n)) here
          (unmarked-before start setup marks at stepped (none at (omega (arith, later, here)) c.loop-at-test.true)
          (subst (λ n. Shows stepped (post start setup marks n)) (omega (arith, none_made))
          (c.in_ok-stepped.ensures.marked start marks at till marked straight
          (omega (arith, none_made, c.loop-at-test.true)))))
          )
    ]

pub returns-then-not-is_away-clause-extends : goal.returns-then-not-is_away-clause-extends
returns-then-not-is_away-clause-extends c start marks none h =
    let inv = c.loop-at.invariant in
    let at = c.loop-at.at in
    let setup = c.args.setup.now in
    let till = between c.args.from at c.args.end marks inv.later inv.within none in
    let marked = inv.marked start marks none h c.loop-at-test.true in
    extends-then start setup marks c.args.first 4 c.args.from at (at + c.in_ok-stepped.count) _ _ _ inv.rows
    (inv.extends start marks none h)
    (c.enter_words.ensures.ahead c.if-not-is_away.true start setup marks at
    (c.in_ok-stepped.ensures.straight start marks at till marked))

pub loop-at-preserved : goal.loop-at-preserved
loop-at-preserved c =
    let inv = c.loop-at.invariant in
    let at = c.loop-at.at in
    let setup = c.args.setup.now in
    let count = c.in_ok-stepped.count in
    let stepped = c.in_ok-stepped.stepped in
    let away = c.if-not-is_away.false in
    let fewer = c.in_ok-stepped.ensures.fewer away in
    let till : (marks : List Alteration) → NoneBetween c.args.from c.args.end marks
    → NoneBetween at (at + (c.args.end - at)) marks =
    λ marks none. between c.args.from at c.args.end marks inv.later inv.within none in
    let leaves : (start : State) (marks : List Alteration) → NoneBetween c.args.from c.args.end marks
    → Shows c.args.machine (post start setup marks c.args.from)
    → Leaves start setup marks (at + count) stepped (c.pc-pc.result + 4 * count) =
    λ start marks none h. c.in_ok-stepped.ensures.away start marks at (till marks none)
    (inv.marked start marks none h c.loop-at-test.true) away in
    record {
      later = omega (arith, inv.later);
      within = omega (arith, fewer, inv.within);
      marked = λ start marks none h less. unmarked start setup marks (at + count + 1) stepped
          (none (at + count + 1) (omega (arith, inv.later)) less) (leaves start marks none h).shows;
      shows = λ start marks none h later. (leaves start marks none h).shows;
      rows = c.enter_words.ensures.rows ∙ inv.rows;
      extends = λ start marks none h.
          extends-then start setup marks c.args.first 4 c.args.from at (at + count + 1) _ _ _ inv.rows
          (inv.extends start marks none h)
          (c.enter_words.ensures.away away start setup marks at
          (c.in_ok-stepped.ensures.straight start marks at (till marks none)
          (inv.marked start marks none h c.loop-at-test.true)) (leaves start marks none h).side);
    }

use Rattle.std.proofs.Common.{◌≡◌, ℕ, ◌+◌, ◌-◌, ◌*◌, ◌<◌, ◌≤◌, ◌∙◌, List, Some, true, arith, length, subst}
use Rattle.guest_machine.specs.State.{State}
use Rattle.guest_machine.specs.declared.setup.Setup.{Setup}
use Rattle.run_values.specs.declared.alteration.Alteration.{Alteration}
use Rattle.checkpoints.specs.Entering.{Enters}
use Rattle.checkpoints.specs.Extending.{Extends, GoesStraight}
use Rattle.checkpoints.specs.Sides.{sided}
use Rattle.checkpoints.specs.declared.sides.Sides.{Sides}
use Rattle.checkpoints.proofs.ExtendSteps.{extends-ahead, extends-then}
use Rattle.checkpoints.proofs.straight.enter_rows.Goals as goal

-- one more row
row-more : (start : State) (setup : Setup) (marks : List Alteration) (first from place count at : ℕ)
    (old table new : List Sides) → length table ≡ length old → place ≤ at → at < place + count
    → GoesStraight start setup marks from (first + 4 * place) 4 count
    → Extends start setup marks from (from + (at - place)) first 4 old table
    → Enters first 4 (Some (sided (first + 4 * at) true)) table new
    → Extends start setup marks from (from + (at + 1 - place)) first 4 old new
row-more start setup marks first from place count at old table new rows later within straight extends enters =
    let i = at - place in
    let past : at ≡ place + i = omega (arith, later) in
    let here : first + 4 * at ≡ first + 4 * place + 4 * i = omega (arith, past) in
    extends-then start setup marks first 4 from (from + i) (from + (at + 1 - place)) old table new rows extends
    (subst (λ n. Extends start setup marks (from + i) n first 4 table new) (omega (arith, later))
    (extends-ahead start setup marks first 4 from (first + 4 * place) count i table new straight
    (omega (arith, later, within))
    (subst (λ a. Enters first 4 (Some (sided a true)) table new) here enters)))

pub loop-at-preserved : goal.loop-at-preserved
loop-at-preserved c =
    let inv = c.loop-at.invariant in
    let first = c.args.first in
    let place = c.args.place in
    let at = c.loop-at.at in
    record {
      later = omega (arith, inv.later);
      within = omega (arith, c.loop-at-test.true);
      rows = c.enter_at-in-loop-at.ensures.rows ∙ c.enter_at.ensures.rows ∙ inv.rows;
      extends = λ start setup marks from straight.
          subst (λ n. Extends start setup marks from (from + n) first 4 c.args.table.now
          c.enter_at-in-loop-at.new.table)
          (omega arith)
          (row-more start setup marks first from place c.args.count (at + 1) c.args.table.now c.enter_at.new.table
          c.enter_at-in-loop-at.new.table (c.enter_at.ensures.rows ∙ inv.rows) (omega (arith, inv.later))
          (omega (arith, c.loop-at-test.true)) straight
          (row-more start setup marks first from place c.args.count at c.args.table.now c.loop-at.table
          c.enter_at.new.table inv.rows inv.later (omega (arith, c.loop-at-test.true)) straight
          (inv.extends start setup marks from straight) c.enter_at.ensures) c.enter_at-in-loop-at.ensures);
    }

pub returns-then-at-end-clause-extends : goal.returns-then-at-end-clause-extends
returns-then-at-end-clause-extends c start setup marks from straight =
    let inv = c.loop-at.invariant in
    let at = c.loop-at.at in
    let all : at + 1 - c.args.place ≡ c.args.count =
    omega (arith, inv.later, c.loop-at-test.false, c.if-at-end.true) in
    subst (λ n. Extends start setup marks from (from + n) c.args.first 4 c.args.table.now
    c.enter_at-then-at-end.new.table) all
    (row-more start setup marks c.args.first from c.args.place c.args.count at c.args.table.now c.loop-at.table
    c.enter_at-then-at-end.new.table inv.rows inv.later (omega (arith, c.if-at-end.true)) straight
    (inv.extends start setup marks from straight) c.enter_at-then-at-end.ensures)

pub returns-else-at-end-clause-extends : goal.returns-else-at-end-clause-extends
returns-else-at-end-clause-extends c start setup marks from straight =
    let inv = c.loop-at.invariant in
    let all : c.loop-at.at - c.args.place ≡ c.args.count =
    omega (arith, inv.later, inv.within, c.if-at-end.false) in
    subst (λ n. Extends start setup marks from (from + n) c.args.first 4 c.args.table.now c.loop-at.table) all
    (inv.extends start setup marks from straight)

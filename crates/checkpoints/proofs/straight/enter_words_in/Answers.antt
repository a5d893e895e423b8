use Rattle.std.proofs.Common.{◌≡◌, ◌+◌, ◌*◌, ◌∙◌, Some, false, ap, arith, subst, sym}
use Rattle.checkpoints.specs.Entering.{Enters}
use Rattle.checkpoints.specs.Extending.{GoesStraight}
use Rattle.checkpoints.specs.Sides.{sided}
use Rattle.checkpoints.proofs.ExtendSteps.{extends-more, extends-then}
use Rattle.checkpoints.proofs.straight.enter_words_in.Goals as goal

pub returns-then-is_away-clause-away : goal.returns-then-is_away-clause-away
returns-then-is_away-clause-away c away start setup marks from straight side =
    let first = c.args.first in
    let count = c.args.count in
    let begins : first + 4 * c.in-Some.place ≡ c.args.pc = c.in-Some.ensures.at in
    let at : first + 4 * (c.in-Some.place + count) ≡ c.args.pc + 4 * count = omega (arith, begins) in
    extends-then start setup marks first 4 from (from + count) (from + count + 1) _ _ _ c.enter_rows.ensures.rows
    (c.enter_rows.ensures.extends start setup marks from
    (subst (λ pc. GoesStraight start setup marks from pc 4 count) (sym begins) straight))
    (extends-more start setup marks first 4 (from + count) _ _
    (subst (λ it. Enters first 4 it c.enter_rows.new.table c.enter_at.new.table)
    (ap (λ a. Some (sided a false)) at ∙ sym side) c.enter_at.ensures))

pub returns-then-is_away-2-clause-away : goal.returns-then-is_away-2-clause-away
returns-then-is_away-2-clause-away c away start setup marks from straight side =
    let first = c.args.first in
    let count = c.args.count in
    extends-then start setup marks first 4 from (from + count) (from + count + 1) _ _ _ c.enter_each.ensures.rows
    (c.enter_each.ensures.extends start setup marks from straight)
    (extends-more start setup marks first 4 (from + count) _ _
    (subst (λ it. Enters first 4 it c.enter_each.new.table c.enter_side.new.table) (sym side) c.enter_side.ensures))

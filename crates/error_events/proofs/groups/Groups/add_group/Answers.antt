use Rattle.std.proofs.Common.{sym, ◌∙◌, arith}
use Rattle.error_events.specs.Lent.{group_with, lent_note}
use Rattle.error_events.proofs.CountSteps.{counts-fit}
use Rattle.error_events.proofs.ShownSteps.{shown-raised-ok, shown-raised-err, shown-begun-ok, shown-begun-err}
use Rattle.error_events.proofs.groups.Groups.add_group.Goals as goal

pub position-requires : goal.position-requires
position-requires c =
    let fit = counts-fit c.args.self.now.counts in let same = c.args.self.now.matched in omega (arith, fit, same)

pub returns-in-Some-clause-ok : goal.returns-in-Some-clause-ok
returns-in-Some-clause-ok c =
    let group = group_with c.args.key.now (lent_note c.args.note.now) c.args.count in
    shown-raised-ok c.args.self.now c.raise.new.self group c.raise.result c.in-Some.index (sym c.position.ensures
    ∙ c.in-Some.is) c.raise.ensures.known
    c.raise.ensures.counts

pub returns-in-Some-clause-err : goal.returns-in-Some-clause-err
returns-in-Some-clause-err c =
    let group = group_with c.args.key.now (lent_note c.args.note.now) c.args.count in
    shown-raised-err c.args.self.now c.raise.new.self group c.raise.result c.raise.ensures.known
    c.raise.ensures.counts_err

pub returns-in-None-clause-ok : goal.returns-in-None-clause-ok
returns-in-None-clause-ok c =
    let group = group_with c.args.key.now (lent_note c.args.note.now) c.args.count in
    shown-begun-ok c.args.self.now c.begin.new.self group c.begin.result (sym c.position.ensures ∙ c.in-None.is)
    c.begin.ensures.known c.begin.ensures.counts

pub returns-in-None-clause-err : goal.returns-in-None-clause-err
returns-in-None-clause-err c =
    let group = group_with c.args.key.now (lent_note c.args.note.now) c.args.count in
    shown-begun-err c.args.self.now c.begin.new.self group c.begin.result c.begin.ensures.known_err
    c.begin.ensures.counts_err

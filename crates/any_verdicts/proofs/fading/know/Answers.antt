use Rattle.std.proofs.Common.{◌∙◌, subst, sym}
use Rattle.guest_machine.specs.Run.{marked}
use Rattle.guest_machine.specs.Shows.{Shows}
use Rattle.any_verdicts.proofs.Ranges.{none-found, range-known, shut-at}
use Rattle.any_verdicts.proofs.fading.know.Goals as goal

pub returns-in-Some-clause-closed : goal.returns-in-Some-clause-closed
returns-in-Some-clause-closed c = λ s shows.
    (shut-at s.core.shadow c.args.start c.args.len c.in-Some.addr c.ranges.start.fits c.ranges.len.fits
    (sym c.in-Some.is ∙ c.first_closed.ensures s shows)).0

pub returns-in-Some-clause-shut : goal.returns-in-Some-clause-shut
returns-in-Some-clause-shut c = λ s shows.
    (shut-at s.core.shadow c.args.start c.args.len c.in-Some.addr c.ranges.start.fits c.ranges.len.fits
    (sym c.in-Some.is ∙ c.first_closed.ensures s shows)).1

pub returns-clause-known : goal.returns-clause-known
unfolding marked
returns-clause-known c = λ s shows.
    subst (Shows c.in_ok-mark.field-0)
    (range-known s c.args.start c.args.len c.ranges.start.fits
    (none-found s.core.shadow c.args.start c.args.len (sym c.in_default.is ∙ c.first_closed.ensures s shows)))
    (c.in_ok-mark.ensures s shows)

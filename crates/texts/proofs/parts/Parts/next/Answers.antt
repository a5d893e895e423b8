-- The part up to the first separator, or all that is left.
use Rattle.std.proofs.Common.{◌∙◌, sym, ap}
use Rattle.texts.specs.Parts.{parts_left}
use Rattle.texts.proofs.PartSteps.{one_part, first_part}
use Rattle.texts.proofs.parts.Parts.next.Goals as goal

pub returns-in-None-clause-some : goal.returns-in-None-clause-some
returns-in-None-clause-some c =
    sym c.self.view_is ∙ ap (parts_left c.self.inside.separator) c.in_ok-rest.was
    ∙ one_part c.self.inside.separator c.in_ok-rest.rest.now c.in-None.ensures

pub returns-in-Some-clause-some : goal.returns-in-Some-clause-some
returns-in-Some-clause-some c =
    sym c.self.view_is ∙ ap (parts_left c.self.inside.separator) c.in_ok-rest.was
    ∙ first_part c.self.inside.separator c.in_ok-rest.rest.now c.in-Some.end c.in-Some.ensures

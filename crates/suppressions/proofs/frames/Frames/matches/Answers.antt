-- Where the innermost name begins with another byte, the walk would find nothing.
use Rattle.std.proofs.Common.{◌∙◌, ap, map, sym}
use Rattle.suppressions.specs.Initials.{innermost_initial, may_match}
use Rattle.suppressions.proofs.InitialSteps.{unmatched}
use Rattle.suppressions.proofs.frames.Frames.matches.Goals as goal

pub returns-else-may_match : goal.returns-else-may_match
returns-else-may_match c =
    let names = map (λ name. name.now) c.args.names.now in
    c.if-may_match.false
    ∙ unmatched c.args.self.now names (sym
    (ap (λ first. may_match first names) (c.self.invariant ∙ ap innermost_initial c.self.view_is))
    ∙ sym c.may_match.ensures ∙ c.if-may_match.false)

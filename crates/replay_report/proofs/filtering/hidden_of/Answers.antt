use Rattle.std.proofs.Common.{ap, sym, ◌∙◌, ◌++◌, ◌∷◌, [], map, take_all, arith}
use Rattle.error_events.specs.Shown.{groups_of}
use Rattle.replay_report.proofs.Filters.{tested-more}
use Rattle.replay_report.specs.Filtering.{hides}
use Rattle.replay_report.proofs.filtering.hidden_of.Goals as goal

pub loop-i-preserved : goal.loop-i-preserved
loop-i-preserved c =
    c.in_ok-push.ensures.items
    ∙ ap (λ xs. xs ++ c.in_ok-hides.hides ∷ []) c.loop-i.invariant
    ∙ sym (tested-more (λ g. hides c.args.suppressions.now c.args.image.now g.kind g.trace) _ c.loop-i.i
    c.in_ok-hides.hides (omega arith) (λ g e. c.in_ok-hides.ensures g (c.get.ensures ∙ e)))

pub loop-i-init : goal.loop-i-init
loop-i-init c = c.new-hidden.ensures.items

pub returns : goal.returns
returns c =
    c.loop-i.invariant
    ∙ ap (map (λ g. hides c.args.suppressions.now c.args.image.now g.kind g.trace))
    (take_all c.loop-i.i (groups_of c.args.groups.now) (omega arith))

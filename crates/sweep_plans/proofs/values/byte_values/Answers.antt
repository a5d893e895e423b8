use Rattle.std.proofs.Common.{◌++◌, ◌∷◌, [], if◌then◌else◌, sym, ◌∙◌}
use Rattle.sweep_plans.specs.Numbers.{below}
use Rattle.sweep_plans.specs.Plans.{byte_values}
use Rattle.sweep_plans.proofs.ListSteps.{byte-more}
use Rattle.sweep_plans.proofs.values.byte_values.Goals as goal

pub loop-new-init : goal.loop-new-init
unfolding byte_values below
loop-new-init c = c.new-values.ensures.items

pub loop-new-preserved : goal.loop-new-preserved
loop-new-preserved c =
    let n = c.loop-new.new in
    c.in_ok-push_if.ensures
    ∙ (λ i. c.loop-new.invariant i ++ (if c.wants_other-is_wanted.ensures i then n ∷ [] else []))
    ∙ sym (byte-more c.args.wanted.now c.args.old n)

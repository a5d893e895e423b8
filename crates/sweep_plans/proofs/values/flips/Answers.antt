use Rattle.std.proofs.Common.{◌++◌, ◌∷◌, [], bit_xor, refl, sym, ◌∙◌, arith}
use Rattle.std.proofs.lemmas.Grind.{one_shifted}
use Rattle.sweep_plans.specs.Numbers.{below}
use Rattle.sweep_plans.specs.Plans.{flips_below}
use Rattle.sweep_plans.proofs.ListSteps.{flip-more}
use Rattle.sweep_plans.proofs.values.flips.Goals as goal

pub loop-bit-init : goal.loop-bit-init
unfolding flips_below below
loop-bit-init c = c.new-words.ensures.items

pub loop-bit-preserved : goal.loop-bit-preserved
loop-bit-preserved c =
    let bit = c.loop-bit.bit in
    let shifted = (one_shifted bit 4294967295 refl (omega arith)).0 in
    c.in_ok-push.ensures.items ∙ (λ i. c.loop-bit.invariant i ++ bit_xor c.args.old (shifted i) ∷ [])
    ∙ sym (flip-more c.args.old bit)

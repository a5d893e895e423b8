use Rattle.std.proofs.Common.{◌≡◌, ◌++◌, ◌∷◌, [], append-nil, refl, ap, sym, ◌∙◌, arith}
use Rattle.std.proofs.lemmas.Grind.{one_shifted}
use Rattle.sweep_plans.specs.Glitches.{flip_of, flips_at}
use Rattle.sweep_plans.proofs.GlitchSteps.{flip-next, more, no-flips}
use Rattle.sweep_plans.proofs.glitches.push_flips.Goals as goal

pub loop-bit-init : goal.loop-bit-init
loop-bit-init c =
    sym (append-nil c.args.changes.now.items)
    ∙ ap (λ xs. c.args.changes.now.items ++ xs) (sym (no-flips c.args.step c.args.target))

pub loop-bit-preserved : goal.loop-bit-preserved
loop-bit-preserved c =
    let bit = c.loop-bit.bit in
    let shifted = (one_shifted bit 4294967295 refl (omega arith)).0 in
    more c.args.changes.now.items (flips_at c.args.step c.args.target bit) _ _ _ _ c.loop-bit.invariant
    (c.in_ok-push.ensures.items ∙ ap (λ x. c.loop-bit.changes.items ++ x ∷ []) (c.flip_of.ensures
    ∙ ap (flip_of c.args.step c.args.target) shifted))
    (flip-next c.args.step c.args.target bit)

pub returns : goal.returns
returns c =
    let all : c.loop-bit.bit ≡ c.args.bits = omega arith in
    c.loop-bit.invariant ∙ ap (λ n. c.args.changes.now.items ++ flips_at c.args.step c.args.target n) all

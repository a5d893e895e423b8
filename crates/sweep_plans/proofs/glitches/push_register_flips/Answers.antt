use Rattle.std.proofs.Common.{◌≡◌, ◌++◌, append-nil, ap, sym, ◌∙◌, arith}
use Rattle.sweep_plans.proofs.GlitchSteps.{all-registers, more, no-registers, register-next, register_flips_to}
use Rattle.sweep_plans.proofs.glitches.push_register_flips.Goals as goal

pub loop-r-init : goal.loop-r-init
loop-r-init c =
    sym (append-nil c.args.changes.now.items)
    ∙ ap (λ xs. c.args.changes.now.items ++ xs) (sym (no-registers c.args.step))

pub loop-r-preserved : goal.loop-r-preserved
loop-r-preserved c =
    more c.args.changes.now.items (register_flips_to c.args.step c.loop-r.r) _ _ _ _ c.loop-r.invariant
    c.in_ok-push_flips.ensures (register-next c.args.step c.loop-r.r)

pub returns : goal.returns
returns c =
    let all : c.loop-r.r ≡ 31 = omega arith in
    c.loop-r.invariant ∙ ap (λ n. c.args.changes.now.items ++ register_flips_to c.args.step n) all
    ∙ ap (λ xs. c.args.changes.now.items ++ xs) (all-registers c.args.step)

use Rattle.std.proofs.Common.{◌≡◌, ◌++◌, append-nil, ap, sym, ◌∙◌, arith}
use Rattle.sweep_plans.proofs.GlitchSteps.{all-sets, more, no-sets, register_sets_to, set-next}
use Rattle.sweep_plans.proofs.glitches.push_register_sets.Goals as goal

pub loop-r-init : goal.loop-r-init
loop-r-init c =
    sym (append-nil c.args.changes.now.items)
    ∙ ap (λ xs. c.args.changes.now.items ++ xs) (sym (no-sets c.args.step c.args.value))

pub loop-r-preserved : goal.loop-r-preserved
loop-r-preserved c =
    more c.args.changes.now.items (register_sets_to c.args.step c.args.value c.loop-r.r) _ _ _ _ c.loop-r.invariant
    c.in_ok-push.ensures.items (set-next c.args.step c.args.value c.loop-r.r)

pub returns : goal.returns
returns c =
    let all : c.loop-r.r ≡ 31 = omega arith in
    c.loop-r.invariant ∙ ap (λ n. c.args.changes.now.items ++ register_sets_to c.args.step c.args.value n) all
    ∙ ap (λ xs. c.args.changes.now.items ++ xs) (all-sets c.args.step c.args.value)

use Rattle.std.proofs.Common.{◌++◌, ◌∷◌, [], get_or, map, take, take_all, ap, sym, ◌∙◌, arith}
use Rattle.std.proofs.lemmas.List.{map_push, take_more}
use Rattle.sweep_plans.specs.Plans.{half_to}
use Rattle.sweep_plans.proofs.values.half_changes.Goals as goal

pub loop-value-preserved : goal.loop-value-preserved
loop-value-preserved c =
    let values = c.args.values.now in
    let i = c.loop-value.value-index in
    c.in_ok-push.ensures.items
    ∙ ap (λ changes. changes ++ half_to c.args.addr (get_or values i 0) ∷ []) c.loop-value.invariant
    ∙ sym (map_push (half_to c.args.addr) (take i values) (get_or values i 0))
    ∙ ap (map (half_to c.args.addr)) (sym (take_more values i 0 c.loop-value-test.true))

pub returns : goal.returns
returns c =
    c.loop-value.invariant
    ∙ ap (map (half_to c.args.addr)) (take_all c.loop-value.value-index c.args.values.now (omega arith))

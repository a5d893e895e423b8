use Rattle.std.proofs.Common.{◌++◌, ◌∷◌, [], get_or, map, take, take_all, ap, sym, ◌∙◌, arith}
use Rattle.std.proofs.lemmas.List.{map_push, take_more}
use Rattle.sweep_plans.specs.Plans.{byte_to}
use Rattle.sweep_plans.proofs.values.byte_changes.Goals as goal

pub loop-value-preserved : goal.loop-value-preserved
loop-value-preserved c =
    let values = c.args.values.now in
    let i = c.loop-value.value-index in
    c.in_ok-push.ensures.items
    ∙ ap (λ changes. changes ++ byte_to c.args.offset (get_or values i 0) ∷ []) c.loop-value.invariant
    ∙ sym (map_push (byte_to c.args.offset) (take i values) (get_or values i 0))
    ∙ ap (map (byte_to c.args.offset)) (sym (take_more values i 0 c.loop-value-test.true))

pub returns : goal.returns
returns c =
    c.loop-value.invariant
    ∙ ap (map (byte_to c.args.offset)) (take_all c.loop-value.value-index c.args.values.now (omega arith))

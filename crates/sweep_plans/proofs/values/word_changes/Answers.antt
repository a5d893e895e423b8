use Rattle.std.proofs.Common.{◌++◌, ◌∷◌, [], get_or, map, take, take_all, ap, sym, ◌∙◌, arith}
use Rattle.std.proofs.lemmas.List.{map_push, take_more}
use Rattle.sweep_plans.specs.declared.change.Change.TheVariants.{Word}
use Rattle.sweep_plans.proofs.values.word_changes.Goals as goal

pub loop-word-preserved : goal.loop-word-preserved
loop-word-preserved c =
    let values = c.args.values.now in
    let i = c.loop-word.word-index in
    c.in_ok-push.ensures.items
    ∙ ap (λ changes. changes ++ Word c.args.addr (get_or values i 0) ∷ []) c.loop-word.invariant
    ∙ sym (map_push (Word c.args.addr) (take i values) (get_or values i 0))
    ∙ ap (map (Word c.args.addr)) (sym (take_more values i 0 c.loop-word-test.true))

pub returns : goal.returns
returns c =
    c.loop-word.invariant
    ∙ ap (map (Word c.args.addr)) (take_all c.loop-word.word-index c.args.values.now (omega arith))

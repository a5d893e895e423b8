use Rattle.std.proofs.Common.{◌++◌, ◌∷◌, ◌==◌, [], not, if◌then◌else◌, get_or, take, take_all, ap, sym, ◌∙◌, arith}
use Rattle.std.proofs.lemmas.List.{take_more}
use Rattle.sweep_plans.specs.Plans.{word_values}
use Rattle.sweep_plans.proofs.ListSteps.{word-more}
use Rattle.sweep_plans.proofs.values.others.Goals as goal

pub loop-word-init : goal.loop-word-init
unfolding word_values
loop-word-init c = c.new-values.ensures.items

pub loop-word-preserved : goal.loop-word-preserved
loop-word-preserved c =
    let words = c.args.words.now in
    let i = c.loop-word.word-index in
    let word = get_or words i 0 in
    c.in_ok-push_if.ensures
    ∙ ap (λ values. values ++ (if not (word == c.args.old) then word ∷ [] else [])) c.loop-word.invariant
    ∙ sym (word-more c.args.old (take i words) word)
    ∙ ap (word_values c.args.old) (sym (take_more words i 0 c.loop-word-test.true))

pub returns : goal.returns
returns c =
    c.loop-word.invariant
    ∙ ap (word_values c.args.old) (take_all c.loop-word.word-index c.args.words.now (omega arith))

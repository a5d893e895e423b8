use Rattle.std.proofs.Common.{sym, ◌∙◌, ◌≡◌, false, subst, arith}
use Rattle.sweep_plans.specs.Plans.{any_word, count}
use Rattle.sweep_plans.proofs.ListSteps.{no-word, no-more-words, some-word}
use Rattle.sweep_plans.proofs.loaded.has_word.Goals as goal

pub loop-i-init : goal.loop-i-init
loop-i-init c = no-word c.args.image.now c.args.words.first

pub returns-then-is_word : goal.returns-then-is_word
returns-then-is_word c =
    sym (some-word c.args.image.now c.args.words.first c.loop-i.i (count c.args.words) (omega arith)
    (sym c.is_word.ensures ∙ c.if-is_word.true))

pub loop-i-preserved : goal.loop-i-preserved
loop-i-preserved c =
    no-more-words c.args.image.now c.args.words.first c.loop-i.i (sym c.is_word.ensures ∙ c.if-is_word.false)
    c.loop-i.invariant

pub returns : goal.returns
returns c =
    let all : c.loop-i.i ≡ count c.args.words = omega arith in
    sym (subst (λ n. any_word c.args.image.now c.args.words.first n ≡ false) all c.loop-i.invariant)

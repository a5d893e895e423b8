use Rattle.std.proofs.Common.{◌≡◌, take}
use Rattle.sweep_plans.specs.Plans.{word_values}
use Rattle.sweep_plans.proofs.values.others.Given as goal

abbrev pub invariant-loop-word : goal.invariant-loop-word
invariant-loop-word l = l.values.items ≡ word_values l.old (take l.word-index l.words)

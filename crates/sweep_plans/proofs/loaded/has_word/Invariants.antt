use Rattle.std.proofs.Common.{◌≡◌, false}
use Rattle.sweep_plans.specs.Plans.{any_word}
use Rattle.sweep_plans.proofs.loaded.has_word.Given as goal

abbrev pub invariant-loop-i : goal.invariant-loop-i
invariant-loop-i l = any_word l.image l.fn.words.first l.i ≡ false

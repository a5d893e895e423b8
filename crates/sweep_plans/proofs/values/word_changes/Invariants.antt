use Rattle.std.proofs.Common.{◌≡◌, map, take}
use Rattle.sweep_plans.specs.declared.change.Change.TheVariants.{Word}
use Rattle.sweep_plans.proofs.values.word_changes.Given as goal

abbrev pub invariant-loop-word : goal.invariant-loop-word
invariant-loop-word l = l.changes.items ≡ map (Word l.addr) (take l.word-index l.values)

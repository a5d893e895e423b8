use Rattle.std.proofs.Common.{ℕ, ◌<◌, ◌≤◌, get_or}
use Rattle.checkpoints.specs.declared.uses.Row.{Row}
use Rattle.checkpoints.proofs.entering.few_ended_by.Given as goal

abbrev pub invariant-loop-index : goal.invariant-loop-index
invariant-loop-index l = (k : ℕ) (d : Row) → k < l.index → (get_or l.rows k d).end ≤ l.word

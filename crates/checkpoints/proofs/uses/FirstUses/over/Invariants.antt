use Rattle.std.proofs.Common.{◌≡◌, ℕ, take, get_or, vec_len}
use Rattle.checkpoints.specs.Words.{words_of, rows_from, never}
use Rattle.checkpoints.proofs.Places.{furthest}
use Rattle.checkpoints.proofs.uses.FirstUses.over.Given as goal

abbrev pub invariant-loop-range : goal.invariant-loop-range
invariant-loop-range l = record {
  rows : l.rows.items ≡ rows_from 0 0 (take l.range-index l.fn.ranges.items);
  end : l.end ≡ furthest 0 (take l.range-index l.fn.ranges.items);
  words : vec_len l.steps ≡ words_of (take l.range-index l.fn.ranges.items);
  none : (k : ℕ) → get_or l.steps.items k never ≡ never;
}

use Rattle.std.proofs.Common.{◌≡◌, ℕ, ◌<◌, ◌≤◌, true}
use Rattle.pruning.specs.Touches.{is_told, TellsAll}
use Rattle.pruning.proofs.touches.push_range.Given as goal

abbrev pub invariant-loop-word : goal.invariant-loop-word
invariant-loop-word l = record {
  kept : TellsAll l.fn.keys.items l.keys.items;
  told : (word : ℕ) → l.first ≤ word → word < l.word → is_told l.keys.items word l.step ≡ true;
}

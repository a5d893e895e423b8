use Rattle.std.proofs.Common.{◌≡◌, ℕ, ◌*◌, ◌<◌, ◌≤◌, length, get_or}
use Rattle.checkpoints.specs.declared.sides.Sides.{Sides}
use Rattle.tries.specs.Merging.{again_in, either, new_in, sum_rows, unreached}
use Rattle.tries.proofs.merging.merge.Given as goal

abbrev pub invariant-loop-place : goal.invariant-loop-place
invariant-loop-place l = record {
  rows : length l.run ≡ length l.fn.run;
  sides : l.news.sides ≡ sum_rows new_in l.seen l.fn.run l.place;
  again : l.news.again ≡ sum_rows again_in l.seen l.fn.run l.place;
  few : l.news.sides ≤ 2 * l.place;
  few_again : l.news.again ≤ 2 * l.place;
  merged : (i : ℕ) (d : Sides) → i < l.place
      → get_or l.run i d ≡ either (get_or l.seen i unreached) (get_or l.fn.run i unreached);
  rest : (i : ℕ) (d : Sides) → l.place ≤ i → get_or l.run i d ≡ get_or l.fn.run i d;
}

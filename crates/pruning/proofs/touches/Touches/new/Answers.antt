use Rattle.std.proofs.Common.{ℕ, ◌∙◌, sym}
use Rattle.std.proofs.lemmas.List.Sorted.{IsNonDecreasingBy-from_sort, list_any-IsPermutation}
use Rattle.pruning.proofs.touches.Touches.new.Goals as goal

pub invariant_of-result : goal.invariant_of-result
invariant_of-result c = record {
  sorted = IsNonDecreasingBy-from_sort (λ (key : ℕ). key) _ c.sort_unstable.ensures.sorted;
}

pub returns : goal.returns
returns c word step h = sym (list_any-IsPermutation _ _ _ c.sort_unstable.ensures.permutation) ∙ h

use Rattle.std.proofs.Common.{◌%◌, ◌<◌, ◌≤◌, ◌≡◌, ℕ, sym, subst}
use Rattle.memory_map.specs.Regions.{greatest_heap_begin}
use Rattle.guest_heap.proofs.Beginnings.{beginning}
use Rattle.guest_heap.proofs.KnownSteps.{known_anew}
use Rattle.guest_heap.proofs.heap.Heap.new_in.Goals as goal

pub invariant_of-result-clause-grid : goal.invariant_of-result-clause-grid
invariant_of-result-clause-grid c =
    let regions = c.args.regions in
    let P : ℕ → Type 0 = λ n. n % 16 ≡ 0 in
    subst P (sym c.heap_begin.ensures)
    (beginning regions.heap regions.stack.begin regions.stack.end regions.sound).grid

pub invariant_of-result-clause-some : goal.invariant_of-result-clause-some
invariant_of-result-clause-some c =
    let regions = c.args.regions in
    let P : ℕ → Type 0 = λ n. 0 < n in
    subst P (sym c.heap_begin.ensures)
    (beginning regions.heap regions.stack.begin regions.stack.end regions.sound).some

pub invariant_of-result-clause-within : goal.invariant_of-result-clause-within
invariant_of-result-clause-within c =
    let regions = c.args.regions in
    let P : ℕ → Type 0 = λ n. n ≤ greatest_heap_begin in
    subst P (sym c.heap_begin.ensures)
    (beginning regions.heap regions.stack.begin regions.stack.end regions.sound).within

pub invariant_of-result-clause-known : goal.invariant_of-result-clause-known
invariant_of-result-clause-known c = known_anew _ _ _ _ c.new-bounds.ensures c.new-gaps.ensures

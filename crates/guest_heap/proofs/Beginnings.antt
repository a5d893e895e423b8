-- Where a heap's region may begin.
use Rattle.std.proofs.Common.{◌≡◌, ℕ, ◌%◌, ◌<◌, ◌≤◌, true, arith}
use Rattle.std.proofs.lemmas.Bool.{eqb-true, leb-true, and_parts}
use Rattle.memory_map.specs.Regions.{greatest_heap_begin, is_heap_begin, are_regions}

-- at a multiple of 16 other than 0, where its end is an address
pub record IsBeginning (begin : ℕ) : Type 0 where
  pub grid : begin % 16 ≡ 0
  pub some : 0 < begin
  pub within : begin ≤ greatest_heap_begin

on-step : (heap : ℕ) → heap % 0x10000000 ≡ 0 → 0x10000000 ≤ heap → heap ≤ 0xD0000000 → IsBeginning heap
on-step heap step least most = record { grid = omega arith; some = omega arith; within = most }

pub beginning : (heap begin end : ℕ) → are_regions heap begin end ≡ true → IsBeginning heap
unfolding is_heap_begin
beginning heap begin end h =
    let is : is_heap_begin heap ≡ true = (and_parts _ _ h).0 in
    let bounds = and_parts _ _ (and_parts _ _ is).1 in
    on-step heap (eqb-true _ _ (and_parts _ _ is).0) (leb-true _ _ bounds.0) (leb-true _ _ bounds.1)

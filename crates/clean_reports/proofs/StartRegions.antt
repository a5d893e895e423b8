-- Where the regions of a program lie at its start.
use Rattle.std.proofs.Common.{◌≡◌, ℕ, ◌+◌, ◌-◌, ◌%◌, ◌<◌, ◌≤◌, ◌==◌, ◌⊎◌, max, min, nat_le, Bool, true, false, refl}
use Rattle.std.proofs.Common.{arith, inl, inr}
use Rattle.std.specs.Prelude.{not}
use Rattle.std.proofs.lemmas.Bool.{and_parts, cases_lt, false≢true, leb-true, ltb-false}
use Rattle.memory_map.specs.Regions.{greatest_heap_begin, greatest_stack_end, heap_size, is_heap_begin}
use Rattle.memory_map.specs.Regions.{is_stack_region, overlap}
use Rattle.memory_map.specs.declared.regions.Regions.{Regions}
use Rattle.shadow_memory.specs.Ranges.{is_in}
use Rattle.guest_heap.proofs.Beginnings.{beginning}
use Rattle.clean_reports.proofs.Blocks.{is-outside}

pub record Lie (regions : Regions) : Type 0 where
  pub grid : regions.heap % 16 ≡ 0
  pub some : 0 < regions.heap
  pub within : regions.heap ≤ greatest_heap_begin
  pub beside : overlap regions.heap regions.stack.begin regions.stack.end ≡ false
  pub long : regions.stack.begin + 65536 ≤ regions.stack.end
  pub end : regions.stack.end ≤ greatest_stack_end

not-so : (b : Bool) → not b ≡ true → b ≡ false
not-so true e = absurd (false≢true e)
not-so false e = refl

pub lie : (regions : Regions) → Lie regions
unfolding is_stack_region
lie regions =
    let heap = regions.heap in
    let stack = regions.stack in
    let parts = and_parts (is_heap_begin heap) _ regions.sound in
    let rest = and_parts (is_stack_region stack.begin stack.end) _ parts.1 in
    let ends = and_parts (stack.end % 4096 == 0) _ (and_parts (stack.begin % 4096 == 0) _ rest.0).1 in
    let lengths = and_parts (nat_le (stack.begin + 65536) stack.end) _ ends.1 in
    let at = beginning heap stack.begin stack.end regions.sound in
    record {
      grid = at.grid;
      some = at.some;
      within = at.within;
      beside = not-so (overlap heap stack.begin stack.end) rest.1;
      long = leb-true (stack.begin + 65536) stack.end lengths.0;
      end = leb-true stack.end greatest_stack_end lengths.1;
    }

-- the bytes at the first stack pointer are none of the heap's region
pub start-clear : (heap begin end a : ℕ) → overlap heap begin end ≡ false → begin + 65536 ≤ end
    → end ≤ greatest_stack_end → heap ≤ a → a < heap + heap_size → is_in (end - 16) 16 a ≡ false
unfolding overlap
start-clear heap begin end a apart long small low high =
    go (ltb-false (max heap begin) (min (heap + heap_size) end) apart) (cases_lt a (end - 16))
  where
    go : min (heap + heap_size) end ≤ max heap begin → (a < end - 16) ⊎ (end - 16 ≤ a) → is_in (end - 16) 16 a ≡ false
    go none (inl less) = is-outside (end - 16) 16 a (inl less) (omega arith)
    go none (inr more) = is-outside (end - 16) 16 a (inr (omega arith)) (omega arith)

use Rattle.std.proofs.lemmas.Bool.{cases_lt}
use Rattle.std.proofs.Common.{inl, inr, arith, ◌+◌, ◌-◌, ◌<◌, max}
use Rattle.guest_heap.specs.Blocks.{high_end, low_end}
use Rattle.guest_heap.specs.Heaps.{blocks_of, redzone_in}
use Rattle.guest_heap.specs.Entries.{block_of}
use Rattle.guest_heap.proofs.PlaceSteps.{passed}
use Rattle.guest_heap.proofs.heap.Heap.place_near.Goals as goal

pub overflow_add-high_end : goal.overflow_add-high_end
overflow_add-high_end c = omega (arith, c.high_end.ensures, c.in-Some.ensures.within)

pub aligned-behind-requires : goal.aligned-behind-requires
aligned-behind-requires c = omega (arith, c.high_end.ensures, c.in-Some.ensures.within)

pub loop-preserved : goal.loop-preserved
unfolding blocks_of redzone_in
loop-preserved c =
    let heap = c.args.self.now in
    let end = c.high_end.ensures in
    let within = c.in-Some.ensures.within in
    let redzone = c.from-before.ensures in
    let bytes = c.max.ensures in
    let length = c.from.ensures in
    let past = c.in-Some.ensures.meets.0 in
    let under = c.in-Some.ensures.meets.1 in
    let low : c.loop.at - heap.redzone < high_end (block_of c.in-Some.entry.now) = omega (arith, past, redzone) in
    let high : low_end (block_of c.in-Some.entry.now) < c.loop.at + (max c.args.size 1 + heap.redzone)
    = omega (arith, under, redzone, bytes, length) in
    let near = c.aligned-behind.ensures.near in
    let over = c.aligned-behind.ensures.above in
    let inv = c.loop.invariant in
    let behind = passed _ _ _ _ _ (block_of c.in-Some.entry.now) inv.above inv.none c.in-Some.ensures.some (low, high)
    c.aligned-behind.ensures.multiple (omega (arith, near, end, redzone)) in
    record {
      multiple = c.past-at.ensures.multiple;
      above =
          (let past_behind = c.past-at.ensures.above in
          omega (arith, past_behind, over, end, redzone, low, inv.above));
      below = c.past-at.ensures.below;
      none = λ q less place. elim (cases_lt q c.aligned-behind.result) [
        | inl under ↦ behind q under place
        | inr over ↦ (let skipped = c.past-at.ensures.passed q over less place.multiple in
            c.requires.skipped q skipped.0 skipped.1 place)
      ];
    }

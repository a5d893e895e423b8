use Rattle.std.proofs.Common.{◌≡◌, ◌∙◌, ◌+◌, ◌<◌, ◌≤◌, ◌^◌, ap, arith, refl, sym, slice_index, length, take, drop, ◌-◌}
use Rattle.std.proofs.Common.{if◌then◌else◌}
use Rattle.shadow_memory.specs.Places.{changed_from}
use Rattle.shadow_memory.specs.Changes.{received}
use Rattle.shadow_memory.specs.Edits.{change_of, count_of}
use Rattle.shadow_memory.specs.Memories.{cells_of}
use Rattle.shadow_memory.specs.Ranges.{above}
use Rattle.shadow_memory.proofs.Growing.{page-more, range-empty}
use Rattle.shadow_memory.proofs.Parts.{length-part, part-read}
use Rattle.shadow_memory.proofs.memory.Memory.store_bytes_cells.Goals as goal

pub loop-done-preserved : goal.loop-done-preserved
unfolding count_of change_of
loop-done-preserved c =
    let d = c.loop-done.done in
    let n = c.count_in_page-count.result in
    let at = above c.args.addr d in
    let xs = c.args.bytes.now in
    let small : c.args.addr < 2 ^ 32 = omega arith in
    let inside : d + n ≤ length xs = omega arith in
    let same : length (take (d + n - d) (drop d xs)) ≡ n = length-part xs d n inside in
    let page : at + n ≤ 2 ^ 32 = omega arith in
    let few : d + n ≤ 2 ^ 32 = omega arith in
    let made = c.in_ok-change.ensures.ok
    ∙ ap (λ k. changed_from (cells_of c.loop-done.self) at k
    (received (slice_index (take (d + n - d) (drop d xs))))) same in
    record {
      within = omega arith;
      cells =
          page-more (cells_of c.args.self.now) (cells_of c.loop-done.self) (cells_of c.change.new.self) c.args.addr d n
          at (received (slice_index xs))
          (received (slice_index (take (d + n - d) (drop d xs)))) small refl page few c.loop-done.invariant.cells made
          (λ i below x. ap (λ b. record {
            byte = b;
            accessible = x.accessible;
            undef = if x.accessible then 0
                else x.undef;
          }) (part-read xs d n i below));
    }

pub loop-done-init : goal.loop-done-init
loop-done-init c = record {
  within = omega arith;
  cells = sym (range-empty (cells_of c.args.self.now) c.args.addr (received (slice_index c.args.bytes.now)));
}

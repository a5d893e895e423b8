use Rattle.std.proofs.Common.{◌+◌, ◌<◌, ◌≤◌, ◌^◌, arith, refl, sym}
use Rattle.shadow_memory.specs.Edits.{each_of}
use Rattle.shadow_memory.specs.Memories.{cells_of}
use Rattle.shadow_memory.specs.Ranges.{above}
use Rattle.shadow_memory.proofs.Growing.{page-more, range-empty}
use Rattle.shadow_memory.proofs.memory.Memory.change_all.Goals as goal

pub loop-done-preserved : goal.loop-done-preserved
loop-done-preserved c =
    let d = c.loop-done.done in
    let n = c.in_ok-count.count in
    let at = above c.args.addr d in
    let most = c.in_ok-count.ensures.within in
    let page = c.in_ok-count.ensures.inside in
    let small : c.args.addr < 2 ^ 32 = omega arith in
    let few : d + n ≤ 2 ^ 32 = omega arith in
    record {
      within = omega arith;
      cells =
          page-more (cells_of c.args.self.now) (cells_of c.loop-done.self) (cells_of c.change_some.new.self) c.args.addr
          d n at
          (λ i cell. each_of c.args.each cell) (λ i cell. each_of c.args.each cell) small refl page few
          c.loop-done.invariant.cells c.in_ok-count.ensures.ok
          (λ i below x. refl);
    }

pub loop-done-init : goal.loop-done-init
loop-done-init c = record {
  within = omega arith;
  cells = sym (range-empty (cells_of c.args.self.now) c.args.addr (λ i cell. each_of c.args.each cell));
}

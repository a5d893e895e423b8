use Rattle.std.proofs.Common.{◌≡◌, ◌+◌, ◌<◌, ◌≤◌, ◌^◌, ap, arith, refl, sym, slice_index, length, take, drop, ◌-◌, ◌⊎◌}
use Rattle.std.proofs.Common.{inl, inr, true}
use Rattle.std.proofs.lemmas.Bool.{cases_lt}
use Rattle.shadow_memory.specs.Changes.{filled}
use Rattle.shadow_memory.specs.Memories.{cells_of}
use Rattle.shadow_memory.specs.Ranges.{above}
use Rattle.shadow_memory.proofs.Growing.{page-more, range-empty}
use Rattle.shadow_memory.proofs.Parts.{rest-read}
use Rattle.shadow_memory.proofs.memory.Memory.fill_cells.Goals as goal

pub loop-done-preserved : goal.loop-done-preserved
loop-done-preserved c =
    let d = c.loop-done.done in
    let n = c.in_ok-count.count in
    let m = c.min.result in
    let within : m ≤ length c.args.bytes.now = omega arith in
    let how : (m ≡ d) ⊎ ((m ≡ length c.args.bytes.now) × (m ≤ d)) = elim (cases_lt d (length c.args.bytes.now))
    [ inl near ↦ inl (omega arith) | inr far ↦ inr (omega arith, omega arith) ] in
    let at = above c.args.addr d in
    let most = c.in_ok-count.ensures.within in
    let page = c.in_ok-count.ensures.inside in
    let small : c.args.addr < 2 ^ 32 = omega arith in
    let few : d + n ≤ 2 ^ 32 = omega arith in
    record {
      within = omega arith;
      cells =
          page-more (cells_of c.args.self.now) (cells_of c.loop-done.self) (cells_of c.fill_some.new.self) c.args.addr d
          n at
          (filled (slice_index c.args.bytes.now))
          (filled (slice_index (take (length c.args.bytes.now - m) (drop m c.args.bytes.now)))) small refl page few
          c.loop-done.invariant.cells c.in_ok-count.ensures.ok
          (λ i below x. ap (λ b. record { byte = b; accessible = true; undef = 0 })
          (rest-read c.args.bytes.now d m i within how));
    }

pub loop-done-init : goal.loop-done-init
loop-done-init c = record {
  within = omega arith;
  cells = sym (range-empty (cells_of c.args.self.now) c.args.addr (filled (slice_index c.args.bytes.now)));
}

use Rattle.std.proofs.Common.{◌≡◌, ◌*◌, ◌+◌, ◌%◌, ℕ, arith, refl, subst}
use Rattle.shadow_memory.specs.Memories.{bytes_in, cells_of, shadows_in}
use Rattle.shadow_memory.specs.Values.{HoldNoneInRange}
use Rattle.shadow_memory.specs.Views.{cells_seen}
use Rattle.shadow_memory.proofs.Ranging.{next-in-page, page-holds-none}
use Rattle.shadow_memory.proofs.Skipping.{pages-hold-none}
use Rattle.shadow_memory.proofs.memory.Memory.next_in_range.Goals as goal

pub returns-in-Some-clause-some : goal.returns-in-Some-clause-some
unfolding bytes_in shadows_in
returns-in-Some-clause-some c =
    let start = c.loop-page.page * 4096 in
    let page : start % 4096 ≡ 0 = omega arith in
    let here : 4096 * c.loop-page.page + c.loop-page.from ≡ start + c.loop-page.from = omega arith in
    next-in-page (cells_of c.args.self.now) (cells_seen c.view.result) start c.args.low c.args.high page c.view.ensures
    c.args.addr c.loop-page.from
    c.in-Some.place c.in-Some.ensures.some c.in-Some.ensures.inside (omega arith)
    (subst (λ (to : ℕ). HoldNoneInRange (bytes_in c.args.self.now) (shadows_in c.args.self.now) c.args.low c.args.high
    c.args.addr to) here c.loop-page.invariant.none)

pub loop-page-preserved : goal.loop-page-preserved
unfolding bytes_in shadows_in
loop-page-preserved c =
    let start = c.loop-page.page * 4096 in
    let page : start % 4096 ≡ 0 = omega arith in
    let here : 4096 * c.loop-page.page + c.loop-page.from ≡ start + c.loop-page.from = omega arith in
    let next : start + 4096 ≡ 4096 * (c.loop-page.page + 1) + 0 = omega arith in
    record {
      within = omega arith;
      place = omega arith;
      aligned = refl;
      above = omega arith;
      none =
          subst (λ (to : ℕ). HoldNoneInRange (bytes_in c.args.self.now) (shadows_in c.args.self.now) c.args.low
          c.args.high c.args.addr to) next
          (page-holds-none (cells_of c.args.self.now) (cells_seen c.view.result) start c.args.low c.args.high page
          c.view.ensures c.args.addr c.loop-page.from
          4096 (omega arith) c.in_default.ensures.none
          (subst (λ (to : ℕ). HoldNoneInRange (bytes_in c.args.self.now) (shadows_in c.args.self.now) c.args.low
          c.args.high c.args.addr to) here c.loop-page.invariant.none));
    }

pub loop-page-preserved-then-page-next : goal.loop-page-preserved-then-page-next
unfolding bytes_in shadows_in
loop-page-preserved-then-page-next c = record {
  within = omega arith;
  place = omega arith;
  aligned = refl;
  above = omega arith;
  none =
      pages-hold-none (cells_of c.args.self.now) c.args.addr c.loop-page.page c.next_kept-next.result c.loop-page.from
      c.loop-page.invariant.place c.next_kept-next.ensures.blank c.args.low c.args.high c.loop-page.invariant.none;
}

use Rattle.std.proofs.Common.{◌≡◌, ◌*◌, ◌+◌, ◌%◌, ℕ, arith, refl, subst}
use Rattle.shadow_memory.specs.Memories.{cells_of, shadows_in}
use Rattle.shadow_memory.specs.Shadows.{HoldNoWord}
use Rattle.shadow_memory.specs.Views.{cells_seen}
use Rattle.shadow_memory.proofs.Searching.{found-in-page, none-in-page}
use Rattle.shadow_memory.proofs.Skipping.{pages-hold-no-word}
use Rattle.shadow_memory.proofs.memory.Memory.next_word.Goals as goal

pub returns-in-Some-clause-some : goal.returns-in-Some-clause-some
unfolding shadows_in
returns-in-Some-clause-some c =
    let start = c.loop-page.page * 4096 in
    let page : start % 4096 ≡ 0 = omega arith in
    let here : 4096 * c.loop-page.page + c.loop-page.from ≡ start + c.loop-page.from = omega arith in
    found-in-page (cells_of c.args.self.now) (cells_seen c.view.result) start page c.view.ensures c.args.addr
    c.loop-page.from c.in-Some.place
    c.in-Some.ensures.some c.in-Some.ensures.inside (omega arith)
    (subst (λ (to : ℕ). HoldNoWord (shadows_in c.args.self.now) c.args.addr to) here c.loop-page.invariant.none)

pub loop-page-preserved : goal.loop-page-preserved
unfolding shadows_in
loop-page-preserved c =
    let start = c.loop-page.page * 4096 in
    let page : start % 4096 ≡ 0 = omega arith in
    let here : 4096 * c.loop-page.page + c.loop-page.from ≡ start + c.loop-page.from = omega arith in
    let next : start + 4096 ≡ 4096 * (c.loop-page.page + 1) + 0 = omega arith in
    record {
      within = omega arith;
      place = omega arith;
      aligned = refl;
      above = omega arith;
      none =
          subst (λ (to : ℕ). HoldNoWord (shadows_in c.args.self.now) c.args.addr to) next
          (none-in-page (cells_of c.args.self.now) (cells_seen c.view.result) start page c.view.ensures c.args.addr
          c.loop-page.from c.in_default.ensures.none
          (subst (λ (to : ℕ). HoldNoWord (shadows_in c.args.self.now) c.args.addr to) here c.loop-page.invariant.none));
    }

pub loop-page-preserved-then-page-next : goal.loop-page-preserved-then-page-next
unfolding shadows_in
loop-page-preserved-then-page-next c = record {
  within = omega arith;
  place = omega arith;
  aligned = refl;
  above = omega arith;
  none =
      pages-hold-no-word (cells_of c.args.self.now) c.args.addr c.loop-page.page c.next_kept-next.result
      c.loop-page.from c.loop-page.invariant.place c.next_kept-next.ensures.blank c.loop-page.invariant.none;
}

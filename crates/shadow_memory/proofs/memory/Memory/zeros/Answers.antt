use Rattle.std.proofs.Common.{◌≡◌, ◌∙◌, ◌-◌, ◌<◌, ◌≤◌, ap, arith, inl, inr, sym}
use Rattle.std.proofs.lemmas.Bool.{cases_lt}
use Rattle.std.proofs.lemmas.Grind.{common_steps}
use Rattle.shadow_memory.specs.Marks.{blank}
use Rattle.shadow_memory.specs.Memories.{cells_of}
use Rattle.shadow_memory.specs.Ranges.{above}
use Rattle.shadow_memory.proofs.memory.Memory.zeros.Goals as goal

pub loop-count-preserved : goal.loop-count-preserved
loop-count-preserved c =
    let addr = c.args.addr in
    let count = c.loop-count.count in
    let more = c.count_in_page-more.result in
    let some : 0 < count = c.loop-count.invariant.some in
    let few : more ≤ c.args.most - count = c.count_in_page-more.ensures.within in
    let before : count < c.args.most = c.loop-count-test.true in
    let same : c.in-Some.other ≡ c.in_ok-kind.kind = grind (arith, common_steps) in
    record {
      some = omega arith;
      within = omega arith;
      zeros = λ i below. elim (cases_lt i count) [
        | inl early ↦ c.loop-count.invariant.zeros i early
        | inr late ↦
            let here : above (above addr count) (i - count) ≡ above addr i = omega arith in
            ap (cells_of c.args.self.now) (sym here) ∙ c.in-Some.ensures (i - count) (omega arith) ∙ ap blank same
      ];
    }

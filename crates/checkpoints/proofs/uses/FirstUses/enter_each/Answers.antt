use Rattle.std.proofs.Common.{◌*◌, ◌∙◌, ap, cond, min, sym, subst, List}
use Rattle.run_values.specs.declared.span.Span.{Span}
use Rattle.guest_machine.specs.Spans.{covers}
use Rattle.checkpoints.specs.Words.{meets, IsPlaced}
use Rattle.checkpoints.specs.Entries.{entry_of}
use Rattle.checkpoints.proofs.WordSteps.{meets-touched, after-three}
use Rattle.checkpoints.proofs.uses.FirstUses.enter_each.Goals as goal

pub returns-clause-entries : goal.returns-clause-entries
returns-clause-entries c w few placed =
    let t = c.args.touched.now in
    let P : List Span → Type 0 = λ rs. IsPlaced rs w in
    let one = c.enter_fetch.ensures.entries w few placed in
    let two = c.enter_span.ensures.entries w few (subst P (sym c.enter_fetch.ensures.ranges) placed) in
    let three = c.enter_span-2.ensures.entries w few
    (subst P (sym (c.enter_span.ensures.ranges ∙ c.enter_fetch.ensures.ranges)) placed) in
    after-three (meets (covers t.fetch) (4 * w)) (meets (covers t.reads) (4 * w)) (meets (covers t.writes) (4 * w)) _
    c.args.step _ _ _ one two three
    ∙ ap (λ b. cond b (min (entry_of c.args.self.now w) c.args.step) (entry_of c.args.self.now w))
    (sym (meets-touched t (4 * w)))

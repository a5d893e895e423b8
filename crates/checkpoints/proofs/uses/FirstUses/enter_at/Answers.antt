use Rattle.std.proofs.Common.{◌≡◌, ◌<◌, ◌∙◌, List, ap, sym, min, length, get_or, arith, rules, vec_len}
use Rattle.std.proofs.lemmas.List.{get_or_default}
use Rattle.std.proofs.Math.ListN.{set}
use Rattle.run_values.specs.declared.span.Span.{Span}
use Rattle.checkpoints.specs.Words.{place_in, words_of, never}
use Rattle.checkpoints.specs.Entries.{entry_of, ranges_of}
use Rattle.checkpoints.proofs.WordSteps.{entered-there}
use Rattle.checkpoints.proofs.uses.FirstUses.enter_at.Goals as goal

pub returns-then-step-first-clause-entries : goal.returns-then-step-first-clause-entries
unfolding entry_of ranges_of
returns-then-step-first-clause-entries c w few placed =
    let rs = c.args.self.now.ranges.items in
    let ss = c.args.self.now.steps.items in
    let place = c.args.place in
    let step = c.args.step in
    let count : vec_len c.args.self.now.steps ≡ length ss = search rules in
    let size : length ss ≡ words_of rs = sym count ∙ c.args.self.now.enough in
    let is : place ≡ place_in rs c.args.word = c.requires.place.0 in
    let there : place_in rs c.args.word < length ss = omega (arith, c.requires.place.1, size) in
    let within : place < length ss = omega arith in
    let old : c.index-first.result.now ≡ get_or ss place never = c.index-first.ensures
    ∙ get_or_default ss place c.index-first.result.now never within in
    let lower : step < get_or ss place never = omega (arith, c.if-step-first.true, old) in
    let least : step ≡ min (get_or ss place never) step = omega (arith, lower) in
    ap (λ (xs : List Span). get_or c.remember.new.self.steps.items (place_in xs w) never)
    (c.remember.ensures.ranges ∙ c.put.ensures.ranges)
    ∙ ap (λ xs. get_or xs (place_in rs w) never) (c.remember.ensures.steps ∙ c.put.ensures.steps)
    ∙ ap (λ k. get_or (set ss k step) (place_in rs w) never) is
    ∙ entered-there rs ss c.args.word w step step never size placed there (least
    ∙ ap (λ k. min (get_or ss k never) step) is)

use Rattle.std.proofs.Common.{◌≡◌, ◌+◌, ◌/◌, ◌%◌, ◌-◌, ◌<◌, ◌≤◌, ◌^◌, ◌∙◌, ap, cond, min, sym, subst, refl, List}
use Rattle.std.proofs.Common.{arith}
use Rattle.run_values.specs.declared.span.Span.{Span}
use Rattle.checkpoints.specs.Words.{words_in, IsPlaced}
use Rattle.checkpoints.specs.Entries.{entry_of}
use Rattle.checkpoints.proofs.WordSteps.{no-word, next-words, span-words}
use Rattle.checkpoints.proofs.uses.FirstUses.enter_words.Goals as goal

pub loop-done-init : goal.loop-done-init
loop-done-init c = record {
  within = omega arith;
  ranges = refl;
  clean = λ h. h;
  entries = λ w few placed. no-word (c.args.span.start / 4) w _ _;
}

pub loop-done-preserved : goal.loop-done-preserved
loop-done-preserved c =
    let first = c.args.span.start / 4 in
    let done = c.loop-done.done in
    let n = c.enter-done.result in
    let small : first < 2 ^ 30 = omega arith in
    let inside : (first + done) % 2 ^ 30 + n ≤ 2 ^ 30 = c.enter-done.ensures.inside (omega arith) in
    let within : n ≤ words_in c.args.span - done = omega arith in
    record {
      within = omega arith;
      ranges = c.enter-done.ensures.ranges ∙ c.loop-done.invariant.ranges;
      clean = λ h. c.enter-done.ensures.clean (c.loop-done.invariant.clean h);
      entries = λ w few placed.
          let P : List Span → Type 0 = λ rs. IsPlaced rs w in
          next-words first done n ((first + done) % 2 ^ 30) w (entry_of c.args.self.now w) (entry_of c.loop-done.self w)
          (entry_of c.enter-done.new.self w) c.args.step small few refl inside
          (c.loop-done.invariant.entries w few placed)
          (c.enter-done.ensures.entries w few (subst P (sym c.loop-done.invariant.ranges) placed));
    }

pub returns-clause-entries : goal.returns-clause-entries
returns-clause-entries c w few placed =
    let x = entry_of c.args.self.now w in
    let y = min x c.args.step in
    let span = c.args.span in
    let some : 0 < span.len = omega arith in
    let end : c.loop-done.done ≡ words_in span = omega arith in
    c.loop-done.invariant.entries w few placed
    ∙ ap (λ b. cond b y x) (sym (span-words span w c.loop-done.done (omega arith) some few end))

pub returns-clause-clean : goal.returns-clause-clean
returns-clause-clean c = c.loop-done.invariant.clean

use Rattle.std.proofs.Common.{◌∙◌, ap, cond, min, refl, sym, arith}
use Rattle.checkpoints.specs.Entries.{entry_of}
use Rattle.checkpoints.proofs.WordSteps.{meets-one}
use Rattle.checkpoints.proofs.uses.FirstUses.enter_unknown.Goals as goal

pub returns-then-is_in_a_word-clause-entries : goal.returns-then-is_in_a_word-clause-entries
returns-then-is_in_a_word-clause-entries c w few placed =
    let span = c.args.span in
    let told = c.if-is_in_a_word.ensures in
    c.enter_word.ensures.entries w few placed
    ∙ ap (λ b. cond b (min (entry_of c.args.self.now w) c.args.step) (entry_of c.args.self.now w))
    (sym (meets-one span w (omega arith) few (told.some refl) (told.short refl)))

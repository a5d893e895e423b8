use Rattle.std.proofs.Common.{◌∙◌, sym}
use Rattle.shadow_memory.specs.Marks.{shadow_of_mark}
use Rattle.shadow_memory.specs.Pages.{marks_mixed}
use Rattle.shadow_memory.proofs.Searching.{word-more}
use Rattle.shadow_memory.proofs.marks.Mixed.next_word.Goals as goal

pub loop-word-preserved : goal.loop-word-preserved
loop-word-preserved c =
    word-more (λ k. shadow_of_mark (marks_mixed c.args.self.now k)) c.args.from c.loop-word.word c.loop-word.invariant
    (sym c.holds_word.ensures ∙ c.if-holds_word.false)

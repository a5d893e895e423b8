use Rattle.std.proofs.Common.{◌∙◌, sym}
use Rattle.looks.specs.LongLines.{as_read}
use Rattle.looks.specs.Views.{read_as, reply_of}
use Rattle.looks.proofs.viewer.ViewerListener.answer.Goals as goal

pub returns-then-alters : goal.returns-then-alters
unfolding reply_of read_as
returns-then-alters c =
    as_read _ _ _ _ (sym c.looks.ensures ∙ c.if-looks.false)
    (rw (sym c.alters.ensures ∙ c.if-alters.true) c.alter.ensures)

pub returns-then-gives : goal.returns-then-gives
unfolding reply_of read_as
returns-then-gives c =
    as_read _ _ _ _ (sym c.looks.ensures ∙ c.if-looks.false)
    (rw (sym c.alters.ensures ∙ c.if-alters.false, sym c.gives.ensures ∙ c.if-gives.true) c.give.ensures)

pub returns-else-gives : goal.returns-else-gives
unfolding reply_of read_as
returns-else-gives c =
    as_read _ _ _ _ (sym c.looks.ensures ∙ c.if-looks.false)
    (rw (sym c.alters.ensures ∙ c.if-alters.false, sym c.gives.ensures ∙ c.if-gives.false) c.answer.ensures)

use Rattle.std.proofs.Common.{ap, ◌∙◌}
use Rattle.texts.specs.Tallied.{keyed, is_met, with_text}
use Rattle.texts.proofs.Steps.{added}
use Rattle.texts.proofs.tallies.add_new.Goals as goal

pub returns-clause-ok : goal.returns-clause-ok
returns-clause-ok c =
    let before = keyed c.args.texts.now.entries in
    let copied = c.in_ok-text.ensures.items in
    ap keyed c.in_ok-_former.ensures.entries
    ∙ added c.args.texts.now.entries c.in_ok-text.text (ap (is_met before) copied ∙ c.requires)
    ∙ ap (with_text before) copied

use Rattle.std.proofs.Common.{ap, sym, ◌∙◌, length, unwrap_or}
use Rattle.texts.specs.Tallied.{keyed}
use Rattle.texts.proofs.Steps.{length-keyed, positions, met}
use Rattle.texts.proofs.tallies.find_in.Goals as goal

pub returns-in-Some-clause-number : goal.returns-in-Some-clause-number
returns-in-Some-clause-number c =
    let entries = c.args.texts.now.entries in
    ap (λ o. unwrap_or o (length (keyed entries))) (c.in-Some.ensures.index ∙ positions c.args.text.now entries)

pub returns-in-Some-clause-met : goal.returns-in-Some-clause-met
returns-in-Some-clause-met c = c.in-Some.ensures.found ∙ met c.args.text.now c.args.texts.now.entries

pub returns-in-None-clause-number : goal.returns-in-None-clause-number
returns-in-None-clause-number c =
    let entries = c.args.texts.now.entries in
    c.len.ensures.len ∙ sym (length-keyed entries)
    ∙ ap (λ o. unwrap_or o (length (keyed entries))) (c.in-None.ensures.index ∙ positions c.args.text.now entries)

pub returns-in-None-clause-met : goal.returns-in-None-clause-met
returns-in-None-clause-met c = c.in-None.ensures.found ∙ met c.args.text.now c.args.texts.now.entries

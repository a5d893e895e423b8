use Rattle.std.proofs.Common.{◌∙◌, ◌++◌, ap, append_assoc, codes}
use Rattle.std.proofs.lemmas.Result.{on_ok_weaker}
use Rattle.report_lines.specs.Text.{address_text}
use Rattle.any_verdicts.specs.Lines.{revealed_at}
use Rattle.any_verdicts.proofs.lines.push_revealed_at.Goals as goal

pub returns : goal.returns
unfolding revealed_at
returns c =
    let before = c.args.out.now.items in
    let front = codes " defined bytes at " in
    let rest = address_text c.args.start in
    on_ok_weaker c.push_address.result (λ same.
    same ∙ ap (λ items. items ++ rest) c.in_ok-push_text.ensures ∙ append_assoc before front rest)
    c.push_address.ensures

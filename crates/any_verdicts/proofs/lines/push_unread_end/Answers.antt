use Rattle.std.proofs.Common.{◌∙◌, ◌++◌, ap, append_assoc, codes}
use Rattle.std.proofs.lemmas.Result.{on_ok_weaker}
use Rattle.std.specs.Fmt.{decimal}
use Rattle.any_verdicts.specs.Lines.{unread_end}
use Rattle.any_verdicts.proofs.lines.push_unread_end.Goals as goal

pub returns : goal.returns
unfolding unread_end
returns c =
    let before = c.args.out.now.items in
    let front = codes " is not read up to step " in
    let rest = decimal c.args.step in
    on_ok_weaker c.push_number.result (λ same.
    same ∙ ap (λ n. c.push_text.new.out.items ++ decimal n) c.from.ensures
    ∙ ap (λ items. items ++ rest) c.in_ok-push_text.ensures ∙ append_assoc before front rest)
    c.push_number.ensures

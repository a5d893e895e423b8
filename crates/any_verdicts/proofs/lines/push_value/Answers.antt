use Rattle.std.proofs.Common.{◌∙◌, ◌++◌, ap, append_assoc, codes}
use Rattle.std.proofs.lemmas.Result.{on_ok_weaker}
use Rattle.any_verdicts.specs.Lines.{bytes_text, value_text}
use Rattle.any_verdicts.proofs.lines.push_value.Goals as goal

pub returns : goal.returns
unfolding value_text
returns c =
    let before = c.args.out.now.items in
    let front = codes " for each value of " in
    let rest = bytes_text c.args.input c.args.memory in
    on_ok_weaker c.push_text-2.result (λ same.
    same ∙ ap (λ text. c.push_text.new.out.items ++ text) c.bytes_text.ensures
    ∙ ap (λ items. items ++ rest) c.in_ok-push_text.ensures ∙ append_assoc before front rest)
    c.push_text-2.ensures

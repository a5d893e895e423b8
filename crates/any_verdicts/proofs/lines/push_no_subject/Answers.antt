use Rattle.std.proofs.Common.{◌∙◌, ◌++◌, ap, append_assoc, codes}
use Rattle.std.proofs.lemmas.Result.{on_ok_weaker}
use Rattle.any_verdicts.specs.Lines.{no_subject, subject_text}
use Rattle.any_verdicts.proofs.lines.push_no_subject.Goals as goal

pub returns : goal.returns
unfolding no_subject
returns c =
    let before = c.args.out.now.items in
    let front = codes "not the same for " in
    let rest = subject_text c.args.chosen.now in
    on_ok_weaker c.push_subject.result (λ same.
    same ∙ ap (λ items. items ++ rest) c.in_ok-push_text.ensures ∙ append_assoc before front rest)
    c.push_subject.ensures

use Rattle.std.proofs.Common.{◌∙◌, ◌++◌, append_assoc, ap, codes, decimal}
use Rattle.report_lines.specs.Text.{newline}
use Rattle.sweep_tables.specs.Swept.{moved_text}
use Rattle.sweep_tables.proofs.head.push_moved_text.Goals as goal

pub returns : goal.returns
unfolding moved_text
returns c =
    let before = c.args.out.now.items in
    let word = codes "most-moved " in
    let number = decimal c.args.moved in
    c.in_ok-push_text-2.ensures
    ∙ ap (λ items. items ++ newline)
    (c.in_ok-push_number.ensures ∙ ap (λ items. items ++ number) c.in_ok-push_text.ensures)
    ∙ append_assoc (before ++ word) number newline ∙ append_assoc before word (number ++ newline)

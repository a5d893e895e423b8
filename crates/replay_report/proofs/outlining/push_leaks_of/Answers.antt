use Rattle.std.proofs.Common.{◌++◌, ◌∙◌, List, ℕ, ap, sym, append-nil}
use Rattle.replay_report.proofs.OutlineSteps.{no-leak-no-line}
use Rattle.replay_report.proofs.outlining.push_leaks_of.Goals as goal

pub returns-then-not-has_leak : goal.returns-then-not-has_leak
returns-then-not-has_leak c =
    sym (append-nil c.args.out.now.items)
    ∙ ap (λ (lines : List ℕ). c.args.out.now.items ++ lines)
    (sym (no-leak-no-line c.args.view.now.image.now c.args.view.now.suppressions.now c.args.view.now.options.now
    c.args.records.now (sym c.has_leak.ensures ∙ c.if-not-has_leak.true)))

use Rattle.std.proofs.Common.{◌∙◌, ◌||◌, ap₂}
use Rattle.std.proofs.lemmas.Result.{IfOk-weaker}
use Rattle.clap.specs.Words.{with_rule}
use Rattle.command_line.proofs.exec.exec_statuses.Goals as goal

pub returns-clause-shape : goal.returns-clause-shape
returns-clause-shape c =
    IfOk-weaker c.arg-3.result _ _ (λ command added. added.shape c.number_option.ensures.local
    ∙ ap₂ with_rule (c.in_ok-command-2.ensures.shape c.default_option.ensures.local
    ∙ ap₂ with_rule (c.in_ok-command.ensures.shape c.number_option-errors.ensures.local
    ∙ ap₂ with_rule c.in_ok-exec_reports.ensures.shape c.number_option-errors.ensures.rule)
    c.default_option.ensures.rule)
    c.number_option.ensures.rule) c.arg-3.ensures

pub returns-clause-globals : goal.returns-clause-globals
returns-clause-globals c =
    IfOk-weaker c.arg-3.result _ _ (λ command added. added.globals
    ∙ ap₂ ◌||◌ (c.in_ok-command-2.ensures.globals
    ∙ ap₂ ◌||◌ (c.in_ok-command.ensures.globals
    ∙ ap₂ ◌||◌ c.in_ok-exec_reports.ensures.globals c.number_option-errors.ensures.local)
    c.default_option.ensures.local)
    c.number_option.ensures.local) c.arg-3.ensures

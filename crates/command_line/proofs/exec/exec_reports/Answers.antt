use Rattle.std.proofs.Common.{◌∙◌, ◌||◌, ap₂}
use Rattle.std.proofs.lemmas.Result.{IfOk-weaker}
use Rattle.clap.specs.Words.{with_rule}
use Rattle.command_line.proofs.exec.exec_reports.Goals as goal

pub returns-clause-shape : goal.returns-clause-shape
returns-clause-shape c =
    IfOk-weaker c.arg-4.result _ _ (λ command added. added.shape c.quiet_flag.ensures.local
    ∙ ap₂ with_rule (c.in_ok-arg.ensures.shape c.default_option-show.ensures.local
    ∙ ap₂ with_rule (c.in_ok-command-2.ensures.shape c.default_number.ensures.local
    ∙ ap₂ with_rule (c.in_ok-command.ensures.shape c.option.ensures.local
    ∙ ap₂ with_rule c.in_ok-exec_runs.ensures.shape c.option.ensures.rule) c.default_number.ensures.rule)
    c.default_option-show.ensures.rule)
    c.quiet_flag.ensures.rule) c.arg-4.ensures

pub returns-clause-globals : goal.returns-clause-globals
returns-clause-globals c =
    IfOk-weaker c.arg-4.result _ _ (λ command added. added.globals
    ∙ ap₂ ◌||◌ (c.in_ok-arg.ensures.globals
    ∙ ap₂ ◌||◌ (c.in_ok-command-2.ensures.globals
    ∙ ap₂ ◌||◌ (c.in_ok-command.ensures.globals
    ∙ ap₂ ◌||◌ c.in_ok-exec_runs.ensures.globals c.option.ensures.local) c.default_number.ensures.local)
    c.default_option-show.ensures.local)
    c.quiet_flag.ensures.local) c.arg-4.ensures

use Rattle.std.proofs.Common.{◌∙◌, ◌||◌, ap₂}
use Rattle.std.proofs.lemmas.Result.{IfOk-weaker}
use Rattle.clap.specs.Words.{with_rule}
use Rattle.command_line.proofs.exec.exec_command.Goals as goal

pub returns-clause-shape : goal.returns-clause-shape
returns-clause-shape c =
    IfOk-weaker c.arg-4.result _ _ (λ command added. added.shape c.flag-2.ensures.local
    ∙ ap₂ with_rule (c.in_ok-command-3.ensures.shape c.option.ensures.local
    ∙ ap₂ with_rule (c.in_ok-command-2.ensures.shape c.flag.ensures.local
    ∙ ap₂ with_rule (c.in_ok-command.ensures.shape c.flag-required.ensures.local
    ∙ ap₂ with_rule c.in_ok-exec_statuses.ensures.shape c.flag-required.ensures.rule) c.flag.ensures.rule)
    c.option.ensures.rule) c.flag-2.ensures.rule) c.arg-4.ensures

pub returns-clause-globals : goal.returns-clause-globals
returns-clause-globals c =
    IfOk-weaker c.arg-4.result _ _ (λ command added. added.globals
    ∙ ap₂ ◌||◌ (c.in_ok-command-3.ensures.globals
    ∙ ap₂ ◌||◌ (c.in_ok-command-2.ensures.globals
    ∙ ap₂ ◌||◌ (c.in_ok-command.ensures.globals
    ∙ ap₂ ◌||◌ c.in_ok-exec_statuses.ensures.globals c.flag-required.ensures.local) c.flag.ensures.local)
    c.option.ensures.local) c.flag-2.ensures.local) c.arg-4.ensures

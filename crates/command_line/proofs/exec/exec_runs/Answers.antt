use Rattle.std.proofs.Common.{◌∙◌, ◌||◌, ap₂}
use Rattle.std.proofs.lemmas.Result.{IfOk-weaker}
use Rattle.clap.specs.Words.{with_rule}
use Rattle.command_line.proofs.exec.exec_runs.Goals as goal

pub returns-clause-shape : goal.returns-clause-shape
returns-clause-shape c =
    IfOk-weaker c.arg-5.result _ _ (λ command added. added.shape c.default_number-memory.ensures.local
    ∙ ap₂ with_rule (c.in_ok-arg.ensures.shape c.default_number-queue.ensures.local
    ∙ ap₂ with_rule (c.in_ok-command-4.ensures.shape c.default_number.ensures.local
    ∙ ap₂ with_rule (c.in_ok-command-3.ensures.shape c.option.ensures.local
    ∙ ap₂ with_rule (c.in_ok-command-2.ensures.shape c.default_number-step.ensures.local
    ∙ ap₂ with_rule c.in_ok-command.ensures.shape c.default_number-step.ensures.rule) c.option.ensures.rule)
    c.default_number.ensures.rule)
    c.default_number-queue.ensures.rule) c.default_number-memory.ensures.rule) c.arg-5.ensures

pub returns-clause-globals : goal.returns-clause-globals
returns-clause-globals c =
    IfOk-weaker c.arg-5.result _ _ (λ command added. added.globals
    ∙ ap₂ ◌||◌ (c.in_ok-arg.ensures.globals
    ∙ ap₂ ◌||◌ (c.in_ok-command-4.ensures.globals
    ∙ ap₂ ◌||◌ (c.in_ok-command-3.ensures.globals
    ∙ ap₂ ◌||◌ (c.in_ok-command-2.ensures.globals
    ∙ ap₂ ◌||◌ c.in_ok-command.ensures.globals c.default_number-step.ensures.local) c.option.ensures.local)
    c.default_number.ensures.local)
    c.default_number-queue.ensures.local) c.default_number-memory.ensures.local) c.arg-5.ensures

use Rattle.std.proofs.Common.{◌∙◌, ◌||◌, ap₂}
use Rattle.std.proofs.lemmas.Result.{IfOk-weaker}
use Rattle.clap.specs.Words.{with_rule}
use Rattle.command_line.proofs.arguments.certify_command.Goals as goal

pub returns-clause-shape : goal.returns-clause-shape
returns-clause-shape c =
    IfOk-weaker c.arg-3.result _ _ (λ command added. added.shape c.option-3.ensures.local
    ∙ ap₂ with_rule (c.in_ok-command-2.ensures.shape c.option-2.ensures.local
    ∙ ap₂ with_rule (c.in_ok-command.ensures.shape c.option.ensures.local
    ∙ ap₂ with_rule c.in_ok-certify_of_step.ensures.shape c.option.ensures.rule) c.option-2.ensures.rule)
    c.option-3.ensures.rule) c.arg-3.ensures

pub returns-clause-globals : goal.returns-clause-globals
returns-clause-globals c =
    IfOk-weaker c.arg-3.result _ _ (λ command added. added.globals
    ∙ ap₂ ◌||◌ (c.in_ok-command-2.ensures.globals
    ∙ ap₂ ◌||◌ (c.in_ok-command.ensures.globals
    ∙ ap₂ ◌||◌ c.in_ok-certify_of_step.ensures.globals c.option.ensures.local) c.option-2.ensures.local)
    c.option-3.ensures.local) c.arg-3.ensures

use Rattle.std.proofs.Common.{◌∙◌, ◌||◌, ap, ap₂}
use Rattle.std.proofs.lemmas.Result.{IfOk-weaker}
use Rattle.clap.specs.Words.{with_rule}
use Rattle.command_line.specs.Orders.{with_limits}
use Rattle.command_line.proofs.arguments.certify_of_step.Goals as goal

pub returns-clause-shape : goal.returns-clause-shape
returns-clause-shape c =
    IfOk-weaker c.arg.result _ _ (λ command added. added.shape c.number_option.ensures.local
    ∙ ap₂ with_rule (c.in_ok-command-2.ensures.shape ∙ ap with_limits c.in_ok-command.ensures.shape)
    c.number_option.ensures.rule) c.arg.ensures

pub returns-clause-globals : goal.returns-clause-globals
returns-clause-globals c =
    IfOk-weaker c.arg.result _ _ (λ command added. added.globals
    ∙ ap₂ ◌||◌ (c.in_ok-command-2.ensures.globals ∙ c.in_ok-command.ensures.globals) c.number_option.ensures.local)
    c.arg.ensures

use Rattle.std.proofs.Common.{◌∙◌, ◌||◌, ap₂}
use Rattle.std.proofs.lemmas.Result.{IfOk-weaker}
use Rattle.clap.specs.Words.{with_rule}
use Rattle.command_line.proofs.arguments.sweep_of_steps.Goals as goal

pub returns-clause-shape : goal.returns-clause-shape
returns-clause-shape c =
    IfOk-weaker c.arg-4.result _ _ (λ command added. added.shape c.option-4.ensures.local
    ∙ ap₂ with_rule (c.in_ok-command-3.ensures.shape c.option-3.ensures.local
    ∙ ap₂ with_rule (c.in_ok-command-2.ensures.shape c.option-2.ensures.local
    ∙ ap₂ with_rule (c.in_ok-command.ensures.shape c.option.ensures.local
    ∙ ap₂ with_rule c.in_ok-sweep_of_words.ensures.shape c.option.ensures.rule) c.option-2.ensures.rule)
    c.option-3.ensures.rule)
    c.option-4.ensures.rule) c.arg-4.ensures

pub returns-clause-globals : goal.returns-clause-globals
returns-clause-globals c =
    IfOk-weaker c.arg-4.result _ _ (λ command added. added.globals
    ∙ ap₂ ◌||◌ (c.in_ok-command-3.ensures.globals
    ∙ ap₂ ◌||◌ (c.in_ok-command-2.ensures.globals
    ∙ ap₂ ◌||◌ (c.in_ok-command.ensures.globals
    ∙ ap₂ ◌||◌ c.in_ok-sweep_of_words.ensures.globals c.option.ensures.local) c.option-2.ensures.local)
    c.option-3.ensures.local)
    c.option-4.ensures.local) c.arg-4.ensures

use Rattle.std.proofs.Common.{◌∙◌, ◌||◌, ap₂}
use Rattle.std.proofs.lemmas.Result.{IfOk-weaker}
use Rattle.clap.specs.Words.{with_rule}
use Rattle.command_line.proofs.arguments.sweep_of_words.Goals as goal

pub returns-clause-shape : goal.returns-clause-shape
returns-clause-shape c =
    IfOk-weaker c.arg-2.result _ _ (λ command added. added.shape c.default_option.ensures.local
    ∙ ap₂ with_rule (c.in_ok-command.ensures.shape c.option.ensures.local
    ∙ ap₂ with_rule c.in_ok-sweep_of_bytes.ensures.shape c.option.ensures.rule)
    c.default_option.ensures.rule) c.arg-2.ensures

pub returns-clause-globals : goal.returns-clause-globals
returns-clause-globals c =
    IfOk-weaker c.arg-2.result _ _ (λ command added. added.globals
    ∙ ap₂ ◌||◌ (c.in_ok-command.ensures.globals
    ∙ ap₂ ◌||◌ c.in_ok-sweep_of_bytes.ensures.globals c.option.ensures.local)
    c.default_option.ensures.local) c.arg-2.ensures

use Rattle.std.proofs.Common.{◌∙◌, ◌||◌, ap₂}
use Rattle.std.proofs.lemmas.Result.{IfOk-weaker}
use Rattle.clap.specs.Words.{with_rule}
use Rattle.command_line.proofs.arguments.sweep_of_flags.Goals as goal

pub returns-clause-shape : goal.returns-clause-shape
returns-clause-shape c =
    IfOk-weaker c.arg-2.result _ _ (λ command added. added.shape c.sides_flag.ensures.local
    ∙ ap₂ with_rule (c.in_ok-command.ensures.shape c.output_flag.ensures.local
    ∙ ap₂ with_rule c.in_ok-sweep_of_steps.ensures.shape c.output_flag.ensures.rule)
    c.sides_flag.ensures.rule) c.arg-2.ensures

pub returns-clause-globals : goal.returns-clause-globals
returns-clause-globals c =
    IfOk-weaker c.arg-2.result _ _ (λ command added. added.globals
    ∙ ap₂ ◌||◌ (c.in_ok-command.ensures.globals
    ∙ ap₂ ◌||◌ c.in_ok-sweep_of_steps.ensures.globals c.output_flag.ensures.local)
    c.sides_flag.ensures.local) c.arg-2.ensures

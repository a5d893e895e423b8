use Rattle.std.proofs.Common.{◌∙◌, ap, ap₂}
use Rattle.std.proofs.lemmas.Result.{IfOk-weaker}
use Rattle.clap.specs.Words.{App, with_subcommand}
use Rattle.command_line.proofs.arguments.with_tries.Goals as goal

pub returns : goal.returns
returns c =
    IfOk-weaker c.subcommand.result _ _ (λ command added. added.shape c.in_ok-tries.ensures.globals
    ∙ ap₂ with_subcommand c.in_ok-with_look.ensures (ap (λ (app : App). app.top) c.in_ok-tries.ensures.shape))
    c.subcommand.ensures

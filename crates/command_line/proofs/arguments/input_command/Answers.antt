use Rattle.std.proofs.Common.{rules, ◌≡◌, ◌∙◌, ◌||◌, ap, ap₂, false}
use Rattle.std.proofs.lemmas.Result.{IfOk-weaker}
use Rattle.clap.specs.Words.{app_of, new_app, with_rule}
use Rattle.clap.specs.declared.builder.command.Command.TheViews.{out-Command}
use Rattle.command_line.specs.Orders.{with_profile}
use Rattle.command_line.proofs.arguments.input_command.Goals as goal

pub returns-clause-shape : goal.returns-clause-shape
returns-clause-shape c =
    let bare_is : app_of c.after_help-command.result ≡ new_app c.args.name.now = search rules in
    IfOk-weaker c.with_profile.result _ _ (λ command added. added
    ∙ ap with_profile (c.in_ok-command-2.ensures.shape c.option.ensures.local
    ∙ ap₂ with_rule (c.in_ok-command.ensures.shape c.file_argument.ensures.local
    ∙ ap₂ with_rule bare_is c.file_argument.ensures.rule) c.option.ensures.rule)) c.with_profile.ensures.shape

pub returns-clause-globals : goal.returns-clause-globals
returns-clause-globals c =
    let bare : (out-Command c.after_help-command.result).has_globals ≡ false = search rules in
    IfOk-weaker c.with_profile.result _ _ (λ command added. added
    ∙ c.in_ok-command-2.ensures.globals
    ∙ ap₂ ◌||◌ (c.in_ok-command.ensures.globals ∙ ap₂ ◌||◌ bare c.file_argument.ensures.local)
    c.option.ensures.local) c.with_profile.ensures.globals

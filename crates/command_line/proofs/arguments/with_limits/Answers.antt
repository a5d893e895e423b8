use Rattle.std.proofs.Common.{◌≡◌, ◌∙◌, ◌||◌, Bool, true, false, ap, ap₂, refl}
use Rattle.std.proofs.lemmas.Result.{IfOk-weaker}
use Rattle.clap.specs.Words.{app_of, with_rule}
use Rattle.clap.specs.declared.builder.command.Command.TheViews.{out-Command}
use Rattle.command_line.proofs.arguments.with_limits.Goals as goal

pub returns-clause-shape : goal.returns-clause-shape
returns-clause-shape c =
    IfOk-weaker c.arg-2.result _ _ (λ command added. added.shape c.option-2.ensures.local
    ∙ ap₂ with_rule (c.in_ok-command.ensures.shape c.option.ensures.local
    ∙ ap (with_rule (app_of c.args.command)) c.option.ensures.rule) c.option-2.ensures.rule) c.arg-2.ensures

-- arguments that aren't global leave whether a command has one that is
none-more : (has : Bool) → ((has || false) || false) ≡ has
none-more true = refl
none-more false = refl

pub returns-clause-globals : goal.returns-clause-globals
returns-clause-globals c =
    let has = (out-Command c.args.command).has_globals in
    IfOk-weaker c.arg-2.result _ _ (λ command added. added.globals
    ∙ ap₂ ◌||◌ (c.in_ok-command.ensures.globals ∙ ap (λ b. has || b) c.option.ensures.local)
    c.option-2.ensures.local ∙ none-more has) c.arg-2.ensures

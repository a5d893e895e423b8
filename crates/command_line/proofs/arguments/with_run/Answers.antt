use Rattle.std.proofs.Common.{rules, ◌≡◌, ◌∙◌, ap, ap₂, codes, true}
use Rattle.std.proofs.lemmas.Result.{IfOk-weaker}
use Rattle.clap.specs.Simple.{on_top}
use Rattle.clap.specs.Words.{App, app_of, new_app, with_subcommand}
use Rattle.command_line.proofs.arguments.with_run.Goals as goal

pub returns : goal.returns
returns c =
    let top_is : app_of c.subcommand_required.result
    ≡ on_top (λ top. record top { has_version = true; subcommand_required = true })
    (new_app (codes "replaycheck")) = search rules in
    IfOk-weaker c.subcommand.result _ _ (λ command added. added.shape c.in_ok-run.ensures.globals
    ∙ ap₂ with_subcommand top_is (ap (λ (app : App). app.top) c.in_ok-run.ensures.shape)) c.subcommand.ensures

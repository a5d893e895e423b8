use Rattle.std.proofs.Common.{◌≡◌, ◌∙◌, ap, sym, true, refl, map, string_bytes}
use Rattle.clap.proofs.OnLiterals.{clap_on_literals}
use Rattle.clap.specs.Words.{App, fault_of, is_simple, is_simple_and_free, kind_of, subcommand_of, takes}
use Rattle.clap.specs.declared.error.kind.ErrorKind.TheVariants.{OutOfMemory}
use Rattle.command_line.specs.Orders.{command_line}
use Rattle.command_line.proofs.Steps.{found-order, same-error, same-fails}
use Rattle.command_line.proofs.arguments.read_order.Goals as goal

free : is_simple_and_free command_line ≡ true
unfolding clap_on_literals
free = refl

simple : is_simple command_line ≡ true
unfolding clap_on_literals
simple = refl

pub returns-in_err-matches-clause-taken : goal.returns-in_err-matches-clause-taken
returns-in_err-matches-clause-taken c =
    let words = map string_bytes c.args.words.now in
    same-error _ c.in_err-matches.field-0.0 (λ error. takes command_line words ≡ true
    → kind_of error ≡ OutOfMemory) c.from_residual-in_err-matches.ensures.1
    (λ taken. c.in_err-matches.ensures.passes (ap (λ (app : App). takes app words) c.in_ok-make_command.ensures
    ∙ taken))

pub returns-in-Some-clause-kinds : goal.returns-in-Some-clause-kinds
returns-in-Some-clause-kinds c =
    sym (ap (λ (app : App). fault_of app (map string_bytes c.args.words.now)) c.in_ok-make_command.ensures)
    ∙ c.in_ok-matches.ensures.kinds (ap is_simple_and_free c.in_ok-make_command.ensures ∙ free)

pub returns-in_err-matches-clause-kinds : goal.returns-in_err-matches-clause-kinds
returns-in_err-matches-clause-kinds c =
    let words = map string_bytes c.args.words.now in
    same-fails _ _ _ c.in_err-matches.field-0.0 c.from_residual-in_err-matches.ensures.1
    (ap (λ (app : App). fault_of app words) c.in_ok-make_command.ensures)
    (c.in_err-matches.ensures.kinds (ap is_simple_and_free c.in_ok-make_command.ensures ∙ free))

pub returns-in-Some-clause-order : goal.returns-in-Some-clause-order
returns-in-Some-clause-order c =
    let words = map string_bytes c.args.words.now in
    found-order _ _ c.in-Some.order ((c.in_ok-matches.ensures.matches (ap is_simple c.in_ok-make_command.ensures
    ∙ simple)).1
    ∙ ap (λ (app : App). subcommand_of app words) c.in_ok-make_command.ensures) c.in-Some.ensures

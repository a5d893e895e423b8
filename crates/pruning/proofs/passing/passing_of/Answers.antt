use Rattle.std.proofs.Common.{◌≡◌, ◌∙◌, ap, sym, Bool, false, true, is_some, refl, None, Option, Some}
use Rattle.guest_elf.specs.declared.hook.Hook.{Hook}
use Rattle.guest_machine.specs.Exec.{called_here, action_by, fetched}
use Rattle.pruning.specs.Passing.{passing, passing_action}
use Rattle.pruning.proofs.StepLaw.{no_code}
use Rattle.pruning.proofs.passing.passing_of.Goals as goal

none-there : (found : Option Hook) → is_some found ≡ false → found ≡ None
none-there None h = refl
none-there (Some function) h = cc

pub returns-in-None : goal.returns-in-None
unfolding passing
returns-in-None c s shows =
    let found : is_some c.called_here.result ≡ false = cc in
    let none : called_here s.core c.args.setup.now.hooks ≡ None =
    sym (c.called_here.ensures s shows) ∙ none-there c.called_here.result found in
    sym (ap (λ function. passing_action s.core (action_by function (fetched s.core s.bytes)) c.args.register) none
    ∙ no_code s.core s.bytes c.args.register (sym (c.code.ensures s shows) ∙ c.in-None.is))

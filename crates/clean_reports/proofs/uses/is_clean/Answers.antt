use Rattle.std.proofs.Common.{◌≡◌, IsTrue, rules, subst, sym}
use Rattle.std.specs.Prelude.{is_none, ◌↔◌}
use Rattle.error_events.specs.Shown.{groups_of}
use Rattle.clean_reports.specs.Uses.{NoUse}
use Rattle.clean_reports.proofs.Groups.{none-is-use}
use Rattle.clean_reports.proofs.uses.is_clean.Goals as goal

pub returns : goal.returns
returns c = λ s shows.
    let told : c.is_none.result ≡ is_none c.first_use.result = search rules in
    subst (λ b. IsTrue b ↔ NoUse s.events) (sym told)
    (none-is-use (groups_of c.groups.result.now) s.events (c.groups.ensures s shows) c.first_use.result
    c.first_use.ensures)

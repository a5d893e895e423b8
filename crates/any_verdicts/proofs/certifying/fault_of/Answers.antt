use Rattle.std.proofs.Common.{◌∙◌, sym}
use Rattle.error_events.specs.Shown.{groups_of}
use Rattle.any_verdicts.proofs.KeptUses.{found-kept-use, no-kept-use}
use Rattle.any_verdicts.proofs.certifying.fault_of.Goals as goal

pub returns-in-Some-clause-fault : goal.returns-in-Some-clause-fault
returns-in-Some-clause-fault c = λ s shows.
    found-kept-use (groups_of c.groups.result.now) s.events c.args.step c.in-Some.group (c.groups.ensures s shows)
    (sym c.in-Some.is ∙ c.first_kept_use.ensures)

pub returns-in_default-reads-clause-kept : goal.returns-in_default-reads-clause-kept
returns-in_default-reads-clause-kept c = λ none s shows.
    no-kept-use (groups_of c.groups.result.now) s.events (c.groups.ensures s shows)
    (sym c.in_default.is ∙ c.first_kept_use.ensures)

use Rattle.std.proofs.Common.{sym, ◌∙◌}
use Rattle.sweeps.proofs.ChangeSteps.{byte-continues}
use Rattle.sweeps.proofs.sites.find_byte.Goals as goal

pub returns-clause-found : goal.returns-clause-found
returns-clause-found c =
    let is = sym c.standing_byte.ensures ∙ c.in-Some.is in (
      is,
      byte-continues c.args.run.now.scenario c.args.offset c.in-Some.standing c.in_ok-fork.fork is
          c.in_ok-fork.ensures.fork,
    )

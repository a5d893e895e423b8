use Rattle.std.proofs.Common.{sym, ◌∙◌}
use Rattle.scenario.proofs.TrailFacts.{half-in}
use Rattle.sweeps.proofs.ChangeSteps.{loaded-half, half-continues}
use Rattle.sweeps.proofs.sites.find_half.Goals as goal

pub fork_at_code-requires-clause-code : goal.fork_at_code-requires-clause-code
fork_at_code-requires-clause-code c =
    half-in c.args.run.now.trail c.args.run.now.scenario.image c.args.addr c.args.run.now.loads
    (loaded-half c.args.run.now.scenario c.args.addr c.in-Some.standing
    (sym c.standing_half.ensures ∙ c.in-Some.is)).1

pub returns-clause-found : goal.returns-clause-found
returns-clause-found c =
    let is = sym c.standing_half.ensures ∙ c.in-Some.is in (
      is,
      half-continues c.args.run.now.scenario c.args.addr c.in-Some.standing c.in_ok-fork.fork is
          c.in_ok-fork.ensures.fork,
    )

use Rattle.std.proofs.Common.{sym, ◌∙◌}
use Rattle.scenario.proofs.TrailFacts.{word-in}
use Rattle.sweeps.proofs.ChangeSteps.{loaded, word-continues}
use Rattle.sweeps.proofs.sites.find_word.Goals as goal

pub fork_at_code-requires-clause-code : goal.fork_at_code-requires-clause-code
fork_at_code-requires-clause-code c =
    word-in c.args.run.now.trail c.args.run.now.scenario.image c.args.addr c.args.run.now.loads
    (loaded c.args.run.now.scenario c.args.addr c.in-Some.standing
    (sym c.standing_word.ensures ∙ c.in-Some.is))

pub returns-clause-found : goal.returns-clause-found
returns-clause-found c =
    let is = sym c.standing_word.ensures ∙ c.in-Some.is in (
      is,
      word-continues c.args.run.now.scenario c.args.addr c.in-Some.standing c.in_ok-fork.fork is
          c.in_ok-fork.ensures.fork,
    )

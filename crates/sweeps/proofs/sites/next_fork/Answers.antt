use Rattle.std.proofs.lemmas.Result.{IfOk-weaker}
use Rattle.scenario.specs.Scenario.{run_of}
use Rattle.sweeps.proofs.ForkSteps.{fork-later, last_fork-for}
use Rattle.sweeps.proofs.PairSteps.{leads-same}
use Rattle.sweeps.proofs.sites.next_fork.Goals as goal

pub returns-clause-fork : goal.returns-clause-fork
returns-clause-fork c =
    let sc = c.args.scenario.now in
    let last_fork = c.args.last_fork.now in
    IfOk-weaker c.go_on.result _ _
    (λ fork goes. fork-later sc c.setup.result.now c.marks.result.now last_fork.step (run_of sc)
    last_fork fork c.args.step c.setup.ensures c.marks.ensures c.requires.within (goes last_fork.step (run_of sc))
    (leads-same last_fork.step (run_of sc))
    (last_fork-for sc last_fork c.requires.last_fork)) c.go_on.ensures.fork

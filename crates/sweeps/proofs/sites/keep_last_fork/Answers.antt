use Rattle.std.proofs.Common.{refl, sym, subst}
use Rattle.sweep_plans.specs.declared.change.Change.TheVariants.{Once}
use Rattle.sweep_plans.specs.declared.change.Glitch.TheVariants.{Skip}
use Rattle.sweep_plans.specs.declared.standing.Standing.{Standing}
use Rattle.sweeps.specs.Standing.{IsAt}
use Rattle.sweeps.proofs.ForkSteps.{for-last_fork}
use Rattle.sweeps.proofs.sites.keep_last_fork.Goals as goal

pub returns-in-Step : goal.returns-in-Step
returns-in-Step c =
    let sc = c.args.scenario.now in
    let step = c.in-Step.step in
    let at = subst (λ (s : Standing). IsAt sc s (Once step Skip)) (sym c.in-Step.is) (refl, tt) in
    for-last_fork sc step c.args.site.fork (c.requires.fork (Once step Skip) at)

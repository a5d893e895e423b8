use Rattle.std.proofs.Common.{List, ℕ, sym, subst}
use Rattle.std.proofs.lemmas.Result.{on_ok_weaker}
use Rattle.scenario.specs.Scenario.{Scenario}
use Rattle.sweep_plans.specs.declared.change.Change.TheVariants.{Once}
use Rattle.sweep_plans.specs.declared.change.Glitch.TheVariants.{Skip}
use Rattle.sweeps.specs.Outcomes.{IsOutcome}
use Rattle.sweeps.specs.Standing.{skipped}
use Rattle.sweeps.proofs.pairs.try_pair.Goals as goal

pub outcome_of_one-requires-clause-before : goal.outcome_of_one-requires-clause-before
outcome_of_one-requires-clause-before c = c.requires.fork.step.within

pub returns-clause-met : goal.returns-clause-met
returns-clause-met c =
    let wo = c.args.first.with_output in
    let second = Once c.args.later Skip in
    let outcome = c.in_ok-outcome.ensures.outcome c.args.scenario.now.step c.requires.fork in
    on_ok_weaker c.count_pair.result (λ met sc left takes. met sc
    (subst (λ (text : List ℕ). IsOutcome wo (skipped sc c.args.first.step) second text) (sym c.deref.ensures.value)
    (subst (λ (s : Scenario). IsOutcome wo s second c.in_ok-outcome.outcome.items) left outcome)) takes)
    c.count_pair.ensures.met

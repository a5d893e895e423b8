use Rattle.std.proofs.Common.{subst, sym}
use Rattle.checkpoints.specs.declared.effect.Effect.{Effect}
use Rattle.instructions.specs.declared.code.Code.TheVariants.{Half}
use Rattle.scenario.specs.Edits.{WritesLoaded}
use Rattle.scenario.proofs.EditSteps.{effect-loaded, half-loaded}
use Rattle.scenario.proofs.scenario.Scenario.half_shows.Goals as goal

pub returns-clause-loaded : goal.returns-clause-loaded
returns-clause-loaded c taken =
    subst (λ (e : Effect). WritesLoaded c.args.self.now.image e) (sym c.code_effect.ensures)
    (effect-loaded c.args.self.now.image _ c.args.addr (Half c.args.half)
    (half-loaded c.args.self.now.image c.args.addr taken))

-- An edit of the input writes no code.
use Rattle.std.proofs.Common.{List, ℕ, subst, sym}
use Rattle.guest_elf.specs.declared.image.Image.{Image}
use Rattle.checkpoints.specs.declared.effect.Effect.{Effect}
use Rattle.scenario.specs.Edits.{WritesLoaded, input_effect}
use Rattle.scenario.proofs.InputSteps.{of-input}
use Rattle.scenario.proofs.scenario.Scenario.effect.Goals as goal

none-written : (image : Image) (old new : List ℕ) → WritesLoaded image (input_effect old new)
none-written image = of-input (WritesLoaded image) tt tt (λ n. tt)

pub returns-in-Overwrite-clause-loaded : goal.returns-in-Overwrite-clause-loaded
returns-in-Overwrite-clause-loaded c taken =
    subst (λ (e : Effect). WritesLoaded c.args.self.now.image e) (sym c.overwrite_shows.ensures)
    (none-written c.args.self.now.image c.args.self.now.setup.input _)

pub returns-in-Give-clause-loaded : goal.returns-in-Give-clause-loaded
returns-in-Give-clause-loaded c taken =
    subst (λ (e : Effect). WritesLoaded c.args.self.now.image e) (sym c.give_shows.ensures)
    (none-written c.args.self.now.image c.args.self.now.setup.input _)

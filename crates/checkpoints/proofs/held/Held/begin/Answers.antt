use Rattle.std.proofs.Common.{List, ◌++◌, ◌∷◌, [], ◌∙◌, ap}
use Rattle.guest_machine.specs.declared.machine.Machine.{Machine}
use Rattle.checkpoints.specs.Places.{places_of}
use Rattle.checkpoints.proofs.PlaceSteps.{placed-none}
use Rattle.checkpoints.proofs.held.Held.begin.Goals as goal

pub returns : goal.returns
unfolding places_of
returns c =
    placed-none c.push.new.self.items ∙ c.in_ok-push.ensures.items
    ∙ ap (λ (xs : List Machine). xs ++ c.args.start ∷ []) c.new-machines.ensures.items

use Rattle.checkpoints.specs.Places.{places_of, AreCopies}
use Rattle.checkpoints.proofs.held.Held.part.Given as goal

abbrev pub invariant-loop-self : goal.invariant-loop-self
invariant-loop-self l = AreCopies (places_of l.fn.self) (places_of l.self)

abbrev pub decreases-loop-self : goal.decreases-loop-self
decreases-loop-self l = l.self.more

use Rattle.shadow_memory.specs.Views.{cells_seen}
use Rattle.shadow_memory.proofs.views.View.first_bad.Goals as goal

pub returns-in-Held-clause-none : goal.returns-in-Held-clause-none
unfolding cells_seen
returns-in-Held-clause-none c = rw c.in-Held.is c.first_bad.ensures.none

pub returns-in-Held-clause-some : goal.returns-in-Held-clause-some
unfolding cells_seen
returns-in-Held-clause-some c = rw c.in-Held.is c.first_bad.ensures.some

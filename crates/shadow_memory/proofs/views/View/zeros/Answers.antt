use Rattle.shadow_memory.specs.Views.{cells_seen}
use Rattle.shadow_memory.proofs.views.View.zeros.Goals as goal

pub returns-in-Held : goal.returns-in-Held
unfolding cells_seen
returns-in-Held c = rw c.in-Held.is c.zeros.ensures

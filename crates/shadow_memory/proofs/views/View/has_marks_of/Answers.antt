use Rattle.std.proofs.Common.{sym}
use Rattle.shadow_memory.specs.Views.{cells_seen}
use Rattle.shadow_memory.proofs.views.View.has_marks_of.Goals as goal

pub returns-in-Blank-Held : goal.returns-in-Blank-Held
unfolding cells_seen
returns-in-Blank-Held c =
    rw (c.in-Blank-Held.is-0, c.in-Blank-Held.is-1) (λ all k below. sym (c.is_of.ensures all k below))

pub returns-in-Held-Blank : goal.returns-in-Held-Blank
unfolding cells_seen
returns-in-Held-Blank c = rw (c.in-Held-Blank.is-0, c.in-Held-Blank.is-1) c.is_of-in-Held-Blank.ensures

pub returns-in-Held-Held : goal.returns-in-Held-Held
unfolding cells_seen
returns-in-Held-Held c =
    rw (c.in-Held-Held.is-0, c.in-Held-Held.is-1) (λ same k below. c.has_marks_of.ensures same k)

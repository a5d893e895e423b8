use Rattle.std.proofs.Common.{◌≡◌, vec_len}
use Rattle.guest_heap.specs.Rows.{grid_of}
use Rattle.guest_heap.proofs.table.row.Row.shrink.Given as goal

abbrev pub invariant-loop-self : goal.invariant-loop-self
invariant-loop-self g l = grid_of g.P.Part.entries l.self ≡ grid_of g.P.Part.entries l.initial.self

abbrev pub decreases-loop-self : goal.decreases-loop-self
decreases-loop-self g l = vec_len l.self.parts

use Rattle.std.proofs.Common.{◌≡◌, vec_len}
use Rattle.guest_heap.specs.Rows.{grid_of}
use Rattle.guest_heap.proofs.table.row.Row.grow.Given as goal

abbrev pub invariant-loop-i : goal.invariant-loop-i
invariant-loop-i g l = record {
  same : grid_of g.P.Part.entries l.self ≡ grid_of g.P.Part.entries l.initial.self;
  grown : vec_len l.self.parts ≡ l._i;
}

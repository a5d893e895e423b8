use Rattle.std.proofs.Common.{◌≡◌, ◌++◌}
use Rattle.sweep_tables.specs.SidesLines.{address_at, sides_below}
use Rattle.sweep_tables.proofs.sides.push_lines.Given as goal

abbrev pub invariant-loop-n : goal.invariant-loop-n
invariant-loop-n l = record {
  addr : l.addr ≡ address_at l.start l.apart l.n;
  text : l.out.items ≡ l.initial.out.items ++ sides_below l.start l.apart l.digits l.n;
}

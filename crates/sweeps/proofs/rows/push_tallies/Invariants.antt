use Rattle.std.proofs.Common.{◌≡◌, ◌++◌, take}
use Rattle.sweeps.specs.Tables.{tally_lines}
use Rattle.sweeps.proofs.rows.push_tallies.Given as goal

abbrev pub invariant-loop-number : goal.invariant-loop-number
invariant-loop-number l = l.out.items ≡ l.initial.out.items ++ tally_lines 0 (take l.number l.counts)

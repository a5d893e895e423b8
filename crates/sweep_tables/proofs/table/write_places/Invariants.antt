use Rattle.std.proofs.Common.{◌≡◌, ◌-◌, ℕ, List, Option}
use Rattle.sweep_tables.specs.Swept.{Case, Reached}
use Rattle.sweep_tables.proofs.table.write_places.Given as goal

abbrev pub invariant-loop-place : goal.invariant-loop-place
invariant-loop-place g l =
    (case : Case) (base : Option (List ℕ)) → case.plan ≡ l.plan → case.from ≡ l.from
    → Reached case 0 base (g.W.Write.contents l.initial.writer) l.initial.sweep
    → Reached case (l.place - l.from) base (g.W.Write.contents l.writer) l.sweep

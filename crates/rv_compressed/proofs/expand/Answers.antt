-- The instruction is the table's, so what holds of all of the table's holds of it.
use Rattle.rv_compressed.proofs.TableLaws.{expansion-Any, expansion-All, expansion-of_row}
use Rattle.rv_compressed.proofs.Expansions.{expansion-HasRegisters}
use Rattle.rv_compressed.proofs.expand.Goals as goal

pub returns : goal.returns
returns c =
    record {
      row = c.by_quadrant.ensures;
      registers = rw c.by_quadrant.ensures (expansion-HasRegisters c.args.half);
      some = rw c.by_quadrant.ensures (expansion-Any c.args.half);
      none = rw c.by_quadrant.ensures (expansion-All c.args.half);
      only = rw c.by_quadrant.ensures (expansion-of_row c.args.half);
    }

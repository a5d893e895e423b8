-- The instruction is the table's, so what holds of all of the table's holds of it.
use Rattle.rv_extensions.proofs.TableLaws.{extension-HasOperands, extension-Any, extension-All, extension-of_row}
use Rattle.rv_extensions.proofs.decode.Goals as goal

pub returns : goal.returns
returns c =
    record {
      row = c.by_opcode.ensures;
      operands = rw c.by_opcode.ensures (extension-HasOperands c.args.word);
      some = rw c.by_opcode.ensures (extension-Any c.args.word);
      none = rw c.by_opcode.ensures (extension-All c.args.word);
      only = rw c.by_opcode.ensures (extension-of_row c.args.word);
    }

-- The instruction is the table's, so what holds of all of the table's holds of it.
use Rattle.rv_decode.proofs.TableLaws.{insn-HasRegisters, insn-Any, insn-All, insn-of_row}
use Rattle.rv_decode.proofs.decode.Goals as goal

pub returns : goal.returns
returns c =
    record {
      row = c.by_opcode.ensures;
      registers = rw c.by_opcode.ensures (insn-HasRegisters c.args.word);
      some = rw c.by_opcode.ensures (insn-Any c.args.word);
      none = rw c.by_opcode.ensures (insn-All c.args.word);
      only = rw c.by_opcode.ensures (insn-of_row c.args.word);
    }

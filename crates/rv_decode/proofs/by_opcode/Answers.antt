-- The opcode is none of the table's.
use Rattle.std.proofs.Common.{sym, rules}
use Rattle.rv_decode.proofs.TableLemmas.{insn_other}
use Rattle.rv_decode.proofs.by_opcode.Goals as goal

pub returns-in_default : goal.returns-in_default
returns-in_default c = sym (insn_other c.args.word (search rules))

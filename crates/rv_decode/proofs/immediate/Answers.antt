-- Each funct3 has an arm, so the last arm is not reached; it has no row either.
use Rattle.std.proofs.Common.{sym, rules}
use Rattle.rv_decode.proofs.TableLemmas.{insn_immediate_other}
use Rattle.rv_decode.proofs.immediate.Goals as goal

pub returns-in_default : goal.returns-in_default
returns-in_default c = sym (insn_immediate_other c.args.word c.requires (search rules))

-- Both values of the bit have an arm, so the last arm is not reached; it has no row either.
use Rattle.std.proofs.Common.{sym, rules}
use Rattle.rv_compressed.proofs.TableLemmas.{expansion_other_registers}
use Rattle.rv_compressed.proofs.registers.Goals as goal

pub returns-in_default : goal.returns-in_default
returns-in_default c = sym (expansion_other_registers c.args.half c.requires (search rules))

-- The funct3 has no row in quadrant 2.
use Rattle.std.proofs.Common.{sym, rules}
use Rattle.rv_compressed.proofs.TableLemmas.{expansion_other_2}
use Rattle.rv_compressed.proofs.quadrant_2.Goals as goal

pub returns-in_default : goal.returns-in_default
returns-in_default c = sym (expansion_other_2 c.args.half c.requires (search rules))

-- The half begins a longer instruction.
use Rattle.std.proofs.Common.{sym, rules}
use Rattle.rv_compressed.proofs.TableLemmas.{expansion_other}
use Rattle.rv_compressed.proofs.by_quadrant.Goals as goal

pub returns-in_default : goal.returns-in_default
returns-in_default c = sym (expansion_other c.args.half (search rules))

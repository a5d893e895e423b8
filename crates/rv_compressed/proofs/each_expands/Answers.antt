-- The law is a fact of the table.
use Rattle.rv_compressed.proofs.Expansions.{rows-AllExpand}
use Rattle.rv_compressed.proofs.each_expands.Goals as goal

pub returns : goal.returns
returns c = rows-AllExpand

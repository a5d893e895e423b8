-- Neither has a row.
use Rattle.rv_compressed.proofs.TableLaws.{expansion_long, expansion_zero}
use Rattle.rv_compressed.proofs.halves_without_a_row.Goals as goal

pub returns : goal.returns
returns c = record { long = expansion_long; zero = expansion_zero }

-- The law is a fact of the table.
use Rattle.rv_decode.proofs.TableLaws.{rows-OneRow}
use Rattle.rv_decode.proofs.one_row.Goals as goal

pub returns : goal.returns
returns c = rows-OneRow

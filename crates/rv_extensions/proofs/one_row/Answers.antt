-- The law is a fact of the table.
use Rattle.rv_extensions.proofs.TableLaws.{rows-OneRow}
use Rattle.rv_extensions.proofs.one_row.Goals as goal

pub returns : goal.returns
returns c = rows-OneRow

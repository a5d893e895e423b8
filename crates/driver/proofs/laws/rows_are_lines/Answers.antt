use Rattle.driver.proofs.RowLines.{rows_are_lines}
use Rattle.driver.proofs.laws.rows_are_lines.Goals as goal

pub returns : goal.returns
returns c = rows_are_lines

use Rattle.sweep_tables.proofs.OneTable.{one-table}
use Rattle.sweep_tables.proofs.laws.table_is_one.Goals as goal

pub returns : goal.returns
returns c = let law = c.outcomes_are_one.ensures in one-table law.outline law.met

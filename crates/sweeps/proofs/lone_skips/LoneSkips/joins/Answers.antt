use Rattle.sweeps.proofs.lone_skips.LoneSkips.joins.Goals as goal

pub returns-clause-joins : goal.returns-clause-joins
returns-clause-joins c same = record {
  meets = c.meets.ensures same;
  rows = c.has_row.ensures c.if-not-has_row.false;
}

use Rattle.replay_report.proofs.GroupSteps.{grouped-leaks}
use Rattle.replay_report.proofs.laws.leaks_are_grouped.Goals as goal

pub returns : goal.returns
returns c = grouped-leaks

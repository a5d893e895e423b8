use Rattle.test_runs.proofs.Steps.{moves-on}
use Rattle.test_runs.proofs.laws.moves_on.Goals as goal

pub returns : goal.returns
returns c = moves-on c.keeps_front.ensures c.end_stays.ensures

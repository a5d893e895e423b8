use Rattle.error_events.proofs.MergeSteps.{kept-by-test}
use Rattle.error_events.proofs.laws.kept_by_test.Goals as goal

pub returns : goal.returns
returns c = kept-by-test

use Rattle.scenario.proofs.EditLaws.{goes_back}
use Rattle.scenario.proofs.laws.edits_go_back.Goals as goal

pub returns : goal.returns
returns c = goes_back

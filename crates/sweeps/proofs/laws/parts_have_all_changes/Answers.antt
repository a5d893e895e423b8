use Rattle.sweeps.proofs.PartSteps.{parts-have-all}
use Rattle.sweeps.proofs.laws.parts_have_all_changes.Goals as goal

pub returns : goal.returns
returns c = parts-have-all c.parts_make_the_whole.ensures

use Rattle.checkpoints.proofs.WordSteps.{uses-by-words}
use Rattle.checkpoints.proofs.laws.uses_by_words.Goals as goal

pub returns : goal.returns
returns c = uses-by-words

use Rattle.pruning.proofs.WordLaw.{runs-keep-words}
use Rattle.pruning.proofs.laws.runs_keep_words.Goals as goal

pub returns : goal.returns
returns c = runs-keep-words c.keeps_pokes.ensures

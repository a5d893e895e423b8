use Rattle.clean_texts.proofs.Texts.{no-errors-means-none}
use Rattle.clean_texts.proofs.laws.no_errors_means_none.Goals as goal

pub returns : goal.returns
returns c = no-errors-means-none

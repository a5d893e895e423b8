use Rattle.clean_texts.proofs.Texts.{clean-outlines}
use Rattle.clean_texts.proofs.laws.clean_outlines.Goals as goal

pub returns : goal.returns
returns c = clean-outlines

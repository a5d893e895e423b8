use Rattle.texts.proofs.CountSteps.{counts-texts, numbers-texts}
use Rattle.texts.proofs.laws.texts_are_counted.Goals as goal

pub returns : goal.returns
returns c = record { counts = counts-texts; numbers = numbers-texts }

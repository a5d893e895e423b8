use Rattle.guest_machine.proofs.WordLaw.{keeps-words}
use Rattle.guest_machine.proofs.laws.keeps_words.Goals as goal

pub returns : goal.returns
returns c = keeps-words

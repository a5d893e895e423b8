use Rattle.sweeps.proofs.TallySteps.{numbers-are-places, rows-have-numbers, tallies-count}
use Rattle.sweeps.proofs.laws.outcomes_are_counted.Goals as goal

pub returns : goal.returns
returns c =
    let law = c.texts_are_counted.ensures in
    record { tallies = tallies-count law.counts; rows = rows-have-numbers; numbers = numbers-are-places law.numbers }

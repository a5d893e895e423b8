use Rattle.sweeps.proofs.OneMet.{all-met-are-one, outline-is-one}
use Rattle.sweeps.proofs.laws.outcomes_are_one.Goals as goal

pub returns : goal.returns
returns c =
    let outline = outline-is-one c.outline_is_one.ensures in
    record { outline = outline; met = all-met-are-one outline }

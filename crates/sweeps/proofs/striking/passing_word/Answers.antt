use Rattle.sweeps.specs.Recall.{IsTouched}
use Rattle.sweeps.proofs.RecallSteps.{of-found, passes-turn}
use Rattle.sweeps.proofs.striking.passing_word.Goals as goal

pub returns-in-Some : goal.returns-in-Some
returns-in-Some c s shows mask =
    let setup = c.args.setup.now in
    let touched = of-found (IsTouched c.args.machine.now setup) c.args.touched c.in-Some.touched c.in-Some.is
    c.requires s shows in
    passes-turn s setup c.args.addr mask c.passing_word.result c.ranges.addr.fits
    (c.passing_word.ensures.passing s setup touched) (c.passing_word.ensures.bytes s shows)

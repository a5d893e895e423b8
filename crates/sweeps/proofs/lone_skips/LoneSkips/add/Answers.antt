use Rattle.std.proofs.Common.{refl}
use Rattle.sweeps.specs.declared.lone_skips.LoneSkips.{LoneSkips}
use Rattle.sweeps.proofs.LoneSteps.{foreseen-more}
use Rattle.sweeps.proofs.lone_skips.LoneSkips.add.Goals as goal

pub returns-clause-foreseen : goal.returns-clause-foreseen
returns-clause-foreseen c follows foreseen =
    let old = c.args.self.now in
    let new : LoneSkips = record old { rows = c.push.new.self } in
    foreseen-more c.args.settings.with_output c.args.scenario.now old new c.args.machine.now c.in_ok-row.row
    c.args.steps refl c.in_ok-push.ensures.items c.requires.steps c.requires.rows c.in_ok-row.ensures follows foreseen

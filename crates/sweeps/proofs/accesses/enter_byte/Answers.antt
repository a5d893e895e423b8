use Rattle.std.proofs.lemmas.Result.{on_ok_weaker}
use Rattle.sweeps.proofs.AccessSteps.{shown-next}
use Rattle.sweeps.proofs.accesses.enter_byte.Goals as goal

pub returns-clause-shown : goal.returns-clause-shown
returns-clause-shown c =
    on_ok_weaker c.poke.result
    (shown-next c.args.addr c.args.how c.args.table.now c.set_range.new.self c.poke.new.self c.ranges.addr.fits
    c.requires.shown c.in_ok-set_range.ensures.shadows c.set_range.ensures.bytes c.poke.ensures.shadows)
    c.poke.ensures.bytes

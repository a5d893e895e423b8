use Rattle.control_registers.specs.Written.{registers_in}
use Rattle.control_registers.proofs.Same.{same_map, map_same}
use Rattle.control_registers.proofs.registers.agrees_in.Goals as goal

pub returns-clause-same : goal.returns-clause-same
returns-clause-same c =
    let others = registers_in c.args.other.now in
    λ same. c.all_in.ensures.each.1 (same_map others c.args.map.now c.all_in.ensures.found same)

pub returns-clause-each : goal.returns-clause-each
returns-clause-each c =
    λ is. map_same (registers_in c.args.other.now) c.args.map.now (c.all_in.ensures.each.0 is)

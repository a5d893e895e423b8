use Rattle.std.proofs.Common.{arith}
use Rattle.sweeps.proofs.LandmarkSteps.{shows-first, shows-on}
use Rattle.sweeps.proofs.endings.pursue.Goals as goal

pub loop-turn-init : goal.loop-turn-init
loop-turn-init c = record {
  low = omega arith;
  high = c.requires;
  shows = shows-first c.args.scenario.now.setup c.args.machine c.args.from;
}

pub loop-turn-preserved : goal.loop-turn-preserved
loop-turn-preserved c =
    let inv = c.loop-turn.invariant in
    let next = c.next_step-next.ensures in
    let low = inv.low in
    let later = next.later in
    let within = next.within in
    let last = c.step.ensures in
    record {
      low = omega (arith, low, later);
      high = omega (arith, within, last);
      shows = shows-on c.args.scenario.now.setup c.setup.result.now c.args.machine c.loop-turn.machine
          c.in_ok-machine.machine c.args.from c.loop-turn.step c.next_step-next.result c.setup.ensures low later
          inv.shows c.in_ok-machine.ensures.shows;
    }

pub returns-then-meets : goal.returns-then-meets
returns-then-meets c =
    let inv = c.loop-turn.invariant in
    let next = c.next_step-next.ensures in
    let low = inv.low in
    let later = next.later in
    let within = next.within in
    let last = c.step.ensures in
    record {
      low = omega (arith, low, later);
      high = omega (arith, within, last);
      shows = shows-on c.args.scenario.now.setup c.setup.result.now c.args.machine c.loop-turn.machine
          c.in_ok-machine.machine c.args.from c.loop-turn.step c.next_step-next.result c.setup.ensures low later
          inv.shows c.in_ok-machine.ensures.shows;
      met = λ is. c.meets.ensures c.if-meets.true;
    }

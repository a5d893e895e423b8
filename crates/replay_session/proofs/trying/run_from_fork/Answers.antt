use Rattle.std.proofs.Common.{ℕ, List}
use Rattle.checkpoints.specs.Forks.{ShowsEdited}
use Rattle.checkpoints.specs.Sides.{IsSides}
use Rattle.guest_machine.specs.Run.{post}
use Rattle.guest_machine.specs.Shows.{Shows}
use Rattle.scenario.specs.Scenario.{IsOutlineOf, chosen_state, first_state}
use Rattle.replay_session.proofs.TrySteps.{led}
use Rattle.replay_session.proofs.trying.run_from_fork.Goals as goal

pub returns : goal.returns
unfolding IsOutlineOf chosen_state
returns c one last leads fork told =
    let sc = c.args.scenario.now in
    let effect = c.args.effect in
    let start = first_state sc in
    record {
      outcome = c.in_ok-outcome.ensures (chosen_state sc)
          (led effect one sc c.setup.result.now c.marks.result.now c.step.result
          (λ setup marks step. Shows c.in_ok-machine.machine (post start setup marks step)) c.setup.ensures
          c.marks.ensures c.step.ensures (λ l. c.in_ok-machine.ensures.shows last one start l fork) leads);
      sides = led effect one sc c.setup.result.now c.marks.result.now c.step.result
          (λ setup marks step. IsSides start setup marks step c.args.range c.follow_entering.new.table.items)
          c.setup.ensures c.marks.ensures c.step.ensures
          (λ l. c.in_ok-machine.ensures.sides one start last c.args.range.len l fork told) leads;
    }

use Rattle.guest_machine.specs.Run.{pre, post}
use Rattle.checkpoints.proofs.running.run_to.Goals as goal

pub returns-clause-shows : goal.returns-clause-shows
unfolding pre post
returns-clause-shows c s h = c.in_ok-marked.ensures _ (c.in_ok-machine.ensures.shows s h)

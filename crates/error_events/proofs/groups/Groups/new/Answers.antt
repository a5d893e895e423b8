use Rattle.error_events.proofs.ShownSteps.{shown-none}
use Rattle.error_events.proofs.groups.Groups.new.Goals as goal

pub returns : goal.returns
returns c = shown-none _ c.new.ensures

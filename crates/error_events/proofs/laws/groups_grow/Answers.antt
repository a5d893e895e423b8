use Rattle.error_events.proofs.GroupSteps.{grouped-more, grouped-append}
use Rattle.error_events.proofs.laws.groups_grow.Goals as goal

pub returns : goal.returns
returns c = record { one = grouped-more; several = grouped-append }

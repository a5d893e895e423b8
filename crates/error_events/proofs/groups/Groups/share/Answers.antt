use Rattle.std.proofs.Common.{rules}
use Rattle.error_events.proofs.ShownSteps.{shown-same}
use Rattle.error_events.proofs.groups.Groups.share.Goals as goal

pub returns : goal.returns
returns c = shown-same c.args.self.now _ (search rules) (search rules)

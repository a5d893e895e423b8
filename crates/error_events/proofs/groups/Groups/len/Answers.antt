use Rattle.std.proofs.Common.{sym, rules}
use Rattle.error_events.proofs.ShownSteps.{length-shown}
use Rattle.error_events.proofs.groups.Groups.len.Goals as goal

pub returns : goal.returns
returns c = let e = sym (length-shown c.args.self.now) in search (rules, e)

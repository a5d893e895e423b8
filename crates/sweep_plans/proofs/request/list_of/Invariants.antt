use Rattle.std.proofs.Common.{◌≡◌, Some, length}
use Rattle.sweep_plans.specs.Requests.{list_of, listed_from}
use Rattle.sweep_plans.proofs.request.list_of.Given as goal

abbrev pub invariant-loop-part : goal.invariant-loop-part
invariant-loop-part l = listed_from l.most (Some l.list.items) l.parts ≡ list_of l.most l.text

abbrev pub decreases-loop-part : goal.decreases-loop-part
decreases-loop-part l = length l.parts

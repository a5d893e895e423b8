use Rattle.std.proofs.Common.{◌≡◌, Some, length}
use Rattle.sweep_plans.specs.Models.{models_from, models_of}
use Rattle.sweep_plans.proofs.models.models_of.Given as goal

abbrev pub invariant-loop-part : goal.invariant-loop-part
invariant-loop-part l = models_from (Some l.models) l.parts ≡ models_of l.text

abbrev pub decreases-loop-part : goal.decreases-loop-part
decreases-loop-part l = length l.parts

use Rattle.std.proofs.Common.{◌-◌}
use Rattle.clean_reports.proofs.Halving.{Halves}
use Rattle.clean_reports.proofs.certifying.first_use_step.Given as goal

abbrev pub invariant-halve : goal.invariant-halve
invariant-halve l = Halves l.setup l.marks l.fn.trail l.trail l.end l.clean l.used

abbrev pub decreases-halve : goal.decreases-halve
decreases-halve l = l.used - l.clean

use Rattle.std.proofs.Common.{length}
use Rattle.error_events.proofs.layers.+position_in.Given as goal

-- the number of maps that are left
abbrev pub decreases-position_in : goal.decreases-position_in
decreases-position_in l = length l.maps.now

use Rattle.std.proofs.Common.{length}
use Rattle.error_events.proofs.layers.+taken_up.Given as goal

-- the number of maps that are left
abbrev pub decreases-taken_up : goal.decreases-taken_up
decreases-taken_up l = length l.maps.now

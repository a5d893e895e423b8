use Rattle.std.proofs.Common.{length}
use Rattle.error_events.proofs.layers.+entry_in.Given as goal

-- the number of maps that are left
abbrev pub decreases-entry_in : goal.decreases-entry_in
decreases-entry_in l = length l.maps.now

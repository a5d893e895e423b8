use Rattle.std.proofs.Common.{length}
use Rattle.pruning.proofs.course.Course.+free_until.Given as goal

abbrev pub decreases-free_until : goal.decreases-free_until
decreases-free_until l = length l.words.now

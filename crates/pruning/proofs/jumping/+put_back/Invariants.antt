use Rattle.std.proofs.Common.{length}
use Rattle.pruning.proofs.jumping.+put_back.Given as goal

abbrev pub decreases-put_back : goal.decreases-put_back
decreases-put_back l = length l.words.now

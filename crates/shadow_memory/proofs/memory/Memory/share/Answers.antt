use Rattle.shadow_memory.proofs.Clones.{same_of, same_shelves}
use Rattle.shadow_memory.proofs.Seen.{unchanged-bytes, unchanged-shadows}
use Rattle.shadow_memory.proofs.memory.Memory.share.Goals as goal

pub returns-clause-bytes : goal.returns-clause-bytes
returns-clause-bytes c =
    unchanged-bytes _ _ (same_of _ _ (same_shelves _ _ c.in_ok-tops.ensures.cases.0))

pub returns-clause-shadows : goal.returns-clause-shadows
returns-clause-shadows c =
    unchanged-shadows _ _ (same_of _ _ (same_shelves _ _ c.in_ok-tops.ensures.cases.0))

use Rattle.std.proofs.Common.{◌≡◌, sym}
use Rattle.std.proofs.Math.Path.{transport}
use Rattle.std.specs.List.{AllZip}
use Rattle.shadow_memory.specs.TopDirectories.{cells_on}
use Rattle.shadow_memory.proofs.Clones.{same_of, same_shelves}
use Rattle.shadow_memory.proofs.Seen.{unchanged-bytes, unchanged-shadows}
use Rattle.shadow_memory.proofs.memory.Memory.is_same.Goals as goal

pub returns-clause-bytes : goal.returns-clause-bytes
returns-clause-bytes c same =
    let tops = transport (λ i. AllZip (λ part other. cells_on other ≡ cells_on part) (c.deref.ensures.value i)
    (c.deref-2.ensures.value i)) (c.are_same.ensures same) in
    sym (unchanged-bytes _ _ (same_of c.args.self.now c.args.other.now (same_shelves _ _ tops)))

pub returns-clause-shadows : goal.returns-clause-shadows
returns-clause-shadows c same =
    let tops = transport (λ i. AllZip (λ part other. cells_on other ≡ cells_on part) (c.deref.ensures.value i)
    (c.deref-2.ensures.value i)) (c.are_same.ensures same) in
    sym (unchanged-shadows _ _ (same_of c.args.self.now c.args.other.now (same_shelves _ _ tops)))

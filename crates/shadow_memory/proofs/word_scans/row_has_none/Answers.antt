use Rattle.std.proofs.Common.{◌+◌, ◌*◌, ◌<◌, arith, subst, ℕ}
use Rattle.shadow_memory.proofs.Scanning.{word-outside}
use Rattle.shadow_memory.proofs.word_scans.row_has_none.Goals as goal

pub returns : goal.returns
returns c greater j near =
    word-outside c.args.bytes.now (c.args.at + 4 * j) c.args.low c.args.high c.extent.result (λ k. c.type_inv.bytes k)
    (omega arith) c.extent.ensures
    (subst (λ (x : ℕ). c.extent.result < x) (c.above.ensures.each j near) (c.are_greater.ensures greater j near))

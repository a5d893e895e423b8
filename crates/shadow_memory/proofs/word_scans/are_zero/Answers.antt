use Rattle.std.proofs.Common.{◌≡◌, ℕ, IsTrue, nat_eq, arith}
use Rattle.std.proofs.lemmas.Bool.Decides.{nat_tests}
use Rattle.shadow_memory.proofs.Scanning.{bytes-zero}
use Rattle.shadow_memory.proofs.word_scans.are_zero.Goals as goal

is-empty : (x : ℕ) → IsTrue (nat_eq x 0) → x ≡ 0
is-empty x h = grind (arith, nat_tests)

pub returns : goal.returns
returns c empty k near = bytes-zero c.args.bytes.now c.args.at c.requires (is-empty _ empty) k near

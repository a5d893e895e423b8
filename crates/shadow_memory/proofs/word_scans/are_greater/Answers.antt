use Rattle.std.proofs.Common.{◌≡◌, ℕ, IsTrue, nat_eq, arith}
use Rattle.std.proofs.lemmas.Bool.Decides.{nat_tests}
use Rattle.shadow_memory.proofs.Scanning.{lanes-greater}
use Rattle.shadow_memory.proofs.word_scans.are_greater.Goals as goal

is-zero : (x : ℕ) → IsTrue (nat_eq x 0) → x ≡ 0
is-zero x h = grind (arith, nat_tests)

pub returns : goal.returns
returns c empty j near =
    lanes-greater c.args.lanes 16 c.args.most c.requires (omega arith) (is-zero _ empty) j near

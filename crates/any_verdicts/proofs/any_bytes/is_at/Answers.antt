use Rattle.std.proofs.Common.{arith}
use Rattle.std.proofs.lemmas.Bool.Decides.{nat_tests}
use Rattle.any_verdicts.proofs.any_bytes.is_at.Goals as goal

pub returns-then-first-position : goal.returns-then-first-position
returns-then-first-position c =
    grind (arith, nat_tests, c.from-first.ensures, c.from.ensures, c.if-first-position.true)

pub returns-else-first-position : goal.returns-else-first-position
returns-else-first-position c = grind (arith, nat_tests, c.from-first.ensures, c.if-first-position.false)

use Rattle.std.proofs.Common.{◌≡◌, refl, subst, sym}
use Rattle.std.specs.Fmt.{digits}
use Rattle.std.specs.Prelude.{codes, is_ok}
use Rattle.tries.specs.Tries.{last_line}
use Rattle.tries.proofs.plan_text.last_line.Goals as goal

pub returns-in-Err-clause-line : goal.returns-in-Err-clause-line
unfolding digits
returns-in-Err-clause-line c = subst (λ done. codes "refused 1\n" ≡ last_line (is_ok done)) (sym c.in-Err.is) refl

use Rattle.std.proofs.Common.{arith}
use Rattle.clean_reports.proofs.Clean.{clean-reports}
use Rattle.clean_reports.proofs.laws.clean_reports.Goals as goal

pub returns : goal.returns
returns c = clean-reports c.args.input.now (λ k. omega (arith, c.type_inv.input k))

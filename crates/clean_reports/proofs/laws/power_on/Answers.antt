use Rattle.std.proofs.Common.{arith}
use Rattle.clean_reports.proofs.Clean.{power-on}
use Rattle.clean_reports.proofs.laws.power_on.Goals as goal

pub returns : goal.returns
returns c = power-on c.args.input.now (λ k. omega (arith, c.type_inv.input k))

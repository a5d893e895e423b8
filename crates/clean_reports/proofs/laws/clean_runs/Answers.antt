use Rattle.std.proofs.Common.{arith}
use Rattle.clean_reports.proofs.Clean.{clean-runs}
use Rattle.clean_reports.proofs.laws.clean_runs.Goals as goal

pub returns : goal.returns
returns c = clean-runs c.args.input.now (λ k. omega (arith, c.type_inv.input k))

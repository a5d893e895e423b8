use Rattle.std.proofs.Common.{arith}
use Rattle.clean_reports.proofs.Noise.{disturbed-runs-exist}
use Rattle.clean_reports.proofs.laws.disturbed_runs_exist.Goals as goal

pub returns : goal.returns
returns c = disturbed-runs-exist c.args.input.now (λ k. omega (arith, c.type_inv.input k))

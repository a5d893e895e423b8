use Rattle.std.proofs.Common.{arith}
use Rattle.clean_reports.proofs.Clean.{any-runs-agree}
use Rattle.clean_reports.proofs.laws.runs_agree.Goals as goal

pub returns : goal.returns
returns c = any-runs-agree c.args.input.now (λ k. omega (arith, c.type_inv.input k))

use Rattle.std.proofs.Common.{arith}
use Rattle.clean_reports.proofs.Clean.{steps-agree}
use Rattle.clean_reports.proofs.laws.steps_agree.Goals as goal

pub returns : goal.returns
returns c = steps-agree c.args.input.now (λ k. omega (arith, c.type_inv.input k))

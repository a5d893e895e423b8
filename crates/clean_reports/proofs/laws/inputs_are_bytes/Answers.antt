use Rattle.std.proofs.Common.{arith}
use Rattle.clean_reports.proofs.Inputs.{all-bytes}
use Rattle.clean_reports.proofs.laws.inputs_are_bytes.Goals as goal

pub returns : goal.returns
returns c = all-bytes c.args.input.now (λ k. omega (arith, c.type_inv.input k))

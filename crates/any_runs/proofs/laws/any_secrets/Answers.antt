use Rattle.std.proofs.Common.{arith}
use Rattle.any_runs.proofs.Secrets.{any-secrets}
use Rattle.clean_reports.proofs.Inputs.{all-bytes}
use Rattle.any_runs.proofs.laws.any_secrets.Goals as goal

pub returns : goal.returns
returns c =
    any-secrets c.args.input.now c.args.another.now (λ k. omega (arith, c.type_inv.input k))
    (all-bytes c.args.input.now (λ k. omega (arith, c.type_inv.input k)))
    (all-bytes c.args.another.now (λ k. omega (arith, c.type_inv.another k)))

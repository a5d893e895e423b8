use Rattle.std.proofs.Common.{arith}
use Rattle.any_runs.proofs.EchoRuns.{echo-runs-stand}
use Rattle.clean_reports.proofs.Inputs.{all-bytes}
use Rattle.any_runs.proofs.laws.echo_runs_stand.Goals as goal

pub returns : goal.returns
returns c =
    echo-runs-stand c.args.input.now c.args.another.now
    (all-bytes c.args.input.now (λ k. omega (arith, c.type_inv.input k)))
    (all-bytes c.args.another.now (λ k. omega (arith, c.type_inv.another k)))

use Rattle.std.proofs.Common.{arith}
use Rattle.clean_texts.proofs.Texts.{run-texts}
use Rattle.clean_texts.proofs.laws.run_texts.Goals as goal

pub returns : goal.returns
returns c = run-texts c.args.input.now (λ k. omega (arith, c.type_inv.input k))

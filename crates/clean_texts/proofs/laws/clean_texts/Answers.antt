use Rattle.std.proofs.Common.{arith}
use Rattle.clean_texts.proofs.Texts.{clean-texts}
use Rattle.clean_texts.proofs.laws.clean_texts.Goals as goal

pub returns : goal.returns
returns c = clean-texts c.args.input.now (λ k. omega (arith, c.type_inv.input k))

use Rattle.std.proofs.Common.{arith}
use Rattle.clean_texts.proofs.Texts.{printed-texts}
use Rattle.clean_texts.proofs.laws.printed_texts.Goals as goal

pub returns : goal.returns
returns c = printed-texts c.args.input.now (λ k. omega (arith, c.type_inv.input k))

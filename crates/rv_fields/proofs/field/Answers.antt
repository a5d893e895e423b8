-- The mask is a run of ones.
use Rattle.rv_fields.proofs.FieldLemmas.{bit_and_ones_shr}
use Rattle.rv_fields.proofs.field.Goals as goal

pub returns : goal.returns
returns c = bit_and_ones_shr _ c.args.high c.args.low c.requires.order c.requires.range

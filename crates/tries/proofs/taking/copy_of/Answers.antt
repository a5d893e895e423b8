use Rattle.tries.proofs.TakeSteps.{gives-one}
use Rattle.tries.proofs.taking.copy_of.Goals as goal

pub unreachable-requires : goal.unreachable-requires
unreachable-requires c = gives-one c.args.edit.now c.requires c.in_default.not-Overwrite c.in_default.not-Give

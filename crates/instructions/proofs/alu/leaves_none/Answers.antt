use Rattle.instructions.proofs.Known.{none_of}
use Rattle.instructions.proofs.alu.leaves_none.Goals as goal

pub returns : goal.returns
returns c = none_of c.args.operation c.args.x c.args.y c.defined_results.ensures

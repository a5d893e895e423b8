use Rattle.commands.proofs.RangeLaw.{lines-make-ranges}
use Rattle.commands.proofs.laws.lines_make_ranges.Goals as goal

pub returns : goal.returns
returns c = lines-make-ranges

use Rattle.std.proofs.Common.{rules}
use Rattle.sweeps.proofs.recall.Recall.arrive.Goals as goal

pub returns-clause-so : goal.returns-clause-so
returns-clause-so c with_output sc runs h = record {
  unedited = search rules;
  here = search rules;
  next = search rules;
  lone = search rules;
  ends = search rules;
}

use Rattle.std.proofs.Common.{rules}
use Rattle.sweeps.proofs.recall.Recall.pass.Goals as goal

pub returns-then-is_next-clause-so : goal.returns-then-is_next-clause-so
returns-then-is_next-clause-so c with_output sc h = record {
  unedited = search rules;
  here = search rules;
  next = search rules;
  lone = search rules;
  ends = search rules;
}

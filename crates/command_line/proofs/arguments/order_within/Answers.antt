use Rattle.std.proofs.Common.{◌∙◌, codes}
use Rattle.clap.proofs.WalkLemmas.{first_value-rows}
use Rattle.clap.specs.Words.{found_of}
use Rattle.command_line.proofs.arguments.order_within.Goals as goal

pub returns : goal.returns
returns c = record {
  file = c.in_ok-get_str.ensures ∙ first_value-rows (found_of c.args.chosen.now) (codes "FILE");
  input = c.get_str-2.ensures ∙ first_value-rows (found_of c.args.chosen.now) (codes "input");
  rules = c.get_str-3.ensures ∙ first_value-rows (found_of c.args.chosen.now) (codes "supp");
  profile = c.in_ok-profile_of.ensures;
  task = c.in_ok-task_of.ensures;
}

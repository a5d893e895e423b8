use Rattle.std.proofs.Common.{◌∙◌, codes}
use Rattle.clap.proofs.WalkLemmas.{first_value-rows}
use Rattle.clap.specs.Words.{found_of}
use Rattle.command_line.proofs.arguments.profile_of.Goals as goal

pub returns : goal.returns
returns c =
    let found = found_of c.args.chosen.now in
    record {
      isa = c.in_ok-get_str.ensures ∙ first_value-rows found (codes "isa");
      heap = c.in_ok-get_str-2.ensures ∙ first_value-rows found (codes "heap-region");
      stack = c.in_ok-get_str-3.ensures ∙ first_value-rows found (codes "stack-region");
      most_moved = c.get_str-4.ensures ∙ first_value-rows found (codes "most-moved");
      most_output = c.get_str-5.ensures ∙ first_value-rows found (codes "most-output");
    }

use Rattle.std.proofs.Common.{◌∙◌, codes}
use Rattle.clap.proofs.WalkLemmas.{first_value-rows}
use Rattle.clap.specs.Words.{found_of}
use Rattle.command_line.proofs.arguments.certify_of.Goals as goal

pub returns : goal.returns
returns c =
    let found = found_of c.args.chosen.now in
    record {
      step = c.in_ok-number_in.ensures;
      any = c.get_str.ensures ∙ first_value-rows found (codes "any");
      any_memory = c.get_str-2.ensures ∙ first_value-rows found (codes "any-memory");
      reveal = c.get_str-3.ensures ∙ first_value-rows found (codes "reveal");
    }

use Rattle.std.proofs.Common.{◌∙◌, codes}
use Rattle.clap.proofs.WalkLemmas.{first_value-rows, one_text-rows}
use Rattle.clap.specs.Words.{found_of}
use Rattle.command_line.proofs.arguments.sweep_of.Goals as goal

pub returns : goal.returns
returns c =
    let found = found_of c.args.chosen.now in
    record {
      step = c.in_ok-step_of.ensures;
      bytes = c.get_str.ensures ∙ first_value-rows found (codes "bytes");
      byte_values = c.in_ok-get_str.ensures ∙ first_value-rows found (codes "values");
      words = c.get_str-3.ensures ∙ first_value-rows found (codes "words");
      word_values = c.in_ok-get_str-2.ensures ∙ first_value-rows found (codes "words-values");
      at = c.get_str-5.ensures ∙ first_value-rows found (codes "at");
      faults = c.get_str-6.ensures ∙ first_value-rows found (codes "faults");
      code = c.get_str-7.ensures ∙ first_value-rows found (codes "code-range");
      pairs = c.get_str-8.ensures ∙ first_value-rows found (codes "pairs");
      part = c.in_ok-get_str-3.ensures ∙ first_value-rows found (codes "part");
      with_output = record {
        given = λ e. c.get_flag.ensures.value (one_text-rows found (codes "with-output") ∙ e);
        absent = λ e. c.get_flag.ensures.other (one_text-rows found (codes "with-output") ∙ e);
      };
      with_sides = record {
        given = λ e. c.get_flag-2.ensures.value (one_text-rows found (codes "sides") ∙ e);
        absent = λ e. c.get_flag-2.ensures.other (one_text-rows found (codes "sides") ∙ e);
      };
    }

use Rattle.std.proofs.Common.{◌∙◌, codes}
use Rattle.clap.proofs.WalkLemmas.{first_value-rows, one_text-rows}
use Rattle.clap.specs.Words.{found_of}
use Rattle.command_line.proofs.exec.exec_of.Goals as goal

pub returns : goal.returns
returns c =
    let found = found_of c.args.chosen.now in
    record {
      step = c.in_ok-step_of.ensures;
      patches = c.get_str.ensures ∙ first_value-rows found (codes "patch");
      report = c.get_str-2.ensures ∙ first_value-rows found (codes "report");
      error_exitcode = c.in_ok-number_in.ensures;
      idle_exitcode = c.in_ok-number_in-2.ensures;
      callers = c.in_ok-number_of.ensures;
      redzone = c.in_ok-number_of-2.ensures;
      queue = c.in_ok-number_of-3.ensures;
      show = c.in_ok-get_str.ensures ∙ first_value-rows found (codes "show");
      count = c.in_ok-get_str-2.ensures ∙ first_value-rows found (codes "count");
      quiet = record {
        given = λ e. c.get_flag.ensures.value (one_text-rows found (codes "quiet") ∙ e);
        absent = λ e. c.get_flag.ensures.other (one_text-rows found (codes "quiet") ∙ e);
      };
      require_heap = record {
        given = λ e. c.get_flag-2.ensures.value (one_text-rows found (codes "require-heap") ∙ e);
        absent = λ e. c.get_flag-2.ensures.other (one_text-rows found (codes "require-heap") ∙ e);
      };
      no_require_heap = record {
        given = λ e. c.get_flag-3.ensures.value (one_text-rows found (codes "no-require-heap") ∙ e);
        absent = λ e. c.get_flag-3.ensures.other (one_text-rows found (codes "no-require-heap") ∙ e);
      };
      not_heap = c.get_str-5.ensures ∙ first_value-rows found (codes "not-heap");
      memory_limit = c.in_ok-number_of-4.ensures;
      end_line = record {
        given = λ e. c.get_flag-4.ensures.value (one_text-rows found (codes "end-line") ∙ e);
        absent = λ e. c.get_flag-4.ensures.other (one_text-rows found (codes "end-line") ∙ e);
      };
    }

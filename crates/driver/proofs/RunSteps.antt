-- The report of a run without edits.
use Rattle.std.proofs.Common.{◌≡◌, ℕ, List, [], ◌∷◌, true, false, subst}
use Rattle.guest_elf.specs.declared.image.Image.{Image}
use Rattle.guest_machine.specs.declared.setup.Setup.{Setup}
use Rattle.replay_report.specs.declared.options.Options.{Options}
use Rattle.scenario.specs.Limits.{most_steps}
use Rattle.scenario.specs.Scenario.{Scenario, IsReportOf, begun, at_step}
use Rattle.scenario.specs.Setups.{setup_with}
use Rattle.driver.specs.Once.{IsReportOnce}
use Rattle.suppressions.specs.Rules.{Rule}

pub report-once : (image : Image) (input : List ℕ) (rules : List Rule) (setup : Setup) (options : Options) (step : ℕ)
    → setup ≡ setup_with image input
    → options.callers ≡ 12 → options.show ≡ true ∷ false ∷ true ∷ false ∷ []
    → (text : List ℕ) → IsReportOf (record {
      image = image;
      words = [];
      setup = setup;
      marks = [];
      rules = rules;
      options = options;
      step = step;
      limit = most_steps;
    }) text
    → IsReportOnce image input rules step text
unfolding IsReportOnce
report-once image input rules setup options step plain callers show text told =
    let all : record {
      image = image;
      words = [];
      setup = setup;
      marks = [];
      rules = rules;
      options = options;
      step = step;
      limit = most_steps;
    } ≡ at_step (begun image input rules) step =
    λ i. record {
      image = image;
      words = [];
      setup = plain i;
      marks = [];
      rules = rules;
      options = record { callers = callers i; show = show i };
      step = step;
      limit = most_steps;
    } in
    subst (λ (sc : Scenario). IsReportOf sc text) all told

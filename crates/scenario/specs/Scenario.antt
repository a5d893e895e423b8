-- A run as a user has set it up, and its report. Nothing of earlier reports is in it.
use Rattle.std.specs.Prelude.{ℕ, Bool, true, false, List, [], ◌∷◌, fold, length, max, min}
use Rattle.guest_elf.specs.declared.image.Image.{Image}
use Rattle.guest_machine.specs.State.{State}
use Rattle.guest_machine.specs.Run.{start_state, poked, post}
use Rattle.guest_machine.specs.declared.setup.Setup.{Setup}
use Rattle.run_values.specs.declared.alteration.Alteration.{Alteration}
use Rattle.replay_report.specs.Outlines.{IsOutline}
use Rattle.replay_report.specs.Report.{IsReport}
use Rattle.replay_report.specs.declared.options.Options.{Options}
use Rattle.suppressions.specs.Rules.{Rule}
use Rattle.checkpoints.specs.Effects.{Run}
use Rattle.scenario.specs.Limits.{furthest_step, most_steps}
use Rattle.scenario.specs.Setups.{setup_with}
use Rattle.scenario.specs.declared.written.Written.{Written}

-- a program with the words and halves that were written into it, its input and heap settings, the marks, the
-- suppressions with their switches, the options of the report, the chosen step, and the greatest that may be chosen
pub record Scenario : Type 0 where
  pub image : Image
  pub words : List Written
  pub setup : Setup
  pub marks : List Alteration
  pub rules : List Rule
  pub options : Options
  pub step : ℕ
  pub limit : ℕ

-- the greatest step that may be chosen or marked
abbrev pub limit_of : Scenario → ℕ
limit_of sc = min sc.limit furthest_step

-- a state with words written into it, in order
abbrev pub with_words : State → List Written → State
with_words s words = fold (λ s (w : Written). poked s w.addr w.code) s words

-- the state before step 0: the start of the program, with its words written
unfoldable pub first_state : Scenario → State
first_state sc = with_words (start_state sc.image) sc.words

-- its run
abbrev pub run_of : Scenario → Run
run_of sc = record { start = first_state sc; setup = sc.setup; marks = sc.marks }

-- the state at the chosen step of one run from step zero
unfoldable pub chosen_state : Scenario → State
chosen_state sc = post (first_state sc) sc.setup sc.marks sc.step

-- a text is the report at the chosen step of one run from step zero
unfoldable pub IsReportOf : Scenario → List ℕ → Type 0
IsReportOf sc text = IsReport (chosen_state sc) sc.image sc.rules sc.options sc.step (length sc.setup.input) text

-- a text is the outline at the chosen step of one run from step zero, with or without the number of bytes written
unfoldable pub IsOutlineOf : Bool → Scenario → List ℕ → Type 0
IsOutlineOf with_output sc text = IsOutline (chosen_state sc) sc.image sc.rules sc.options with_output text

-- the greatest step that may be chosen, where this one will be
abbrev pub limit_for : ℕ → ℕ
limit_for step = max most_steps step

-- the scenario of a program, an input and suppressions: nothing written, no marks, Memcheck's options, step 0
abbrev pub begun_within : ℕ → Image → List ℕ → List Rule → Scenario
begun_within limit image input rules =
    record {
      image = image;
      words = [];
      setup = setup_with image input;
      marks = [];
      rules = rules;
      options = record { callers = 12; show = true ∷ false ∷ true ∷ false ∷ [] };
      step = 0;
      limit = limit;
    }

-- with the usual limit
abbrev pub begun : Image → List ℕ → List Rule → Scenario
begun image input rules = begun_within most_steps image input rules

-- a scenario with another step chosen
abbrev pub at_step : Scenario → ℕ → Scenario
at_step sc n = record sc { step = n }

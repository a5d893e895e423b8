-- What a text without errors says about the run, known only from the text. An `input` is a list of bytes: each law with
-- an input is the contract of a function that takes it as a slice.
use Rattle.std.specs.Prelude.{◌≡◌, ◌↔◌, ℕ, Bool, List, []}
use Rattle.guest_elf.specs.declared.image.Image.{Image}
use Rattle.run_values.specs.declared.alteration.Alteration.{Alteration}
use Rattle.suppressions.specs.Rules.{Rule}
use Rattle.replay_report.specs.Report.{IsReport}
use Rattle.replay_report.specs.Outlines.{IsOutline}
use Rattle.replay_report.specs.declared.options.Options.{Options}
use Rattle.guest_machine.specs.State.{State}
use Rattle.guest_machine.specs.Run.{post, start_state}
use Rattle.guest_machine.specs.declared.setup.Setup.{Setup}
use Rattle.scenario.specs.Scenario.{IsReportOf, Scenario, at_step, begun, first_state}
use Rattle.scenario.specs.Setups.{setup_with}
use Rattle.clean_reports.specs.Disturbed.{IsStartOf}
use Rattle.clean_reports.specs.Verdicts.{IsCertified, NoneInTheWay}
use Rattle.clean_texts.specs.Texts.{EndsWithNoErrors, HasErrorLine}

-- a report ends with the line of no errors exactly if the state has none, whatever the suppressions and options are
abbrev pub NoErrorsMeansNone : Type 0
NoErrorsMeansNone =
    (s : State) (image : Image) (rules : List Rule) (options : Options) (step input_len : ℕ) (text : List ℕ)
    → IsReport s image rules options step input_len text → EndsWithNoErrors text ↔ s.events ≡ []

-- so such a report certifies a program's run up to step n, under marks none of which is in the way
abbrev pub CleanTexts : List ℕ → Type 0
CleanTexts input =
    (image : Image) (start : State) (setup : Setup) (marks : List Alteration) (n : ℕ) (rules : List Rule)
    (options : Options)
    (step input_len : ℕ) (text : List ℕ)
    → IsStartOf image start → setup.input ≡ input → NoneInTheWay start.core.isa start.core.blocks.begin marks
    → IsReport (post start setup marks n) image rules options step input_len text → EndsWithNoErrors text
    → IsCertified image start setup marks n

-- in particular, this holds for each such report of a scenario, as a session writes it
abbrev pub PrintedTexts : List ℕ → Type 0
PrintedTexts input =
    (sc : Scenario) (text : List ℕ)
    → sc.setup.input ≡ input → NoneInTheWay (first_state sc).core.isa (first_state sc).core.blocks.begin sc.marks
    → IsReportOf sc text
    → EndsWithNoErrors text
    → IsCertified sc.image (first_state sc) sc.setup sc.marks sc.step

-- it also holds for each such report that `replaycheck run` writes: from the start of the program, without marks
abbrev pub RunTexts : List ℕ → Type 0
RunTexts input =
    (image : Image) (rules : List Rule) (n : ℕ) (text : List ℕ)
    → IsReportOf (at_step (begun image input rules) n) text → EndsWithNoErrors text
    → IsCertified image (start_state image) (setup_with image input) [] n

-- if an outline without suppressions has no line that names an error, it is the outline of a state without errors
abbrev pub CleanOutlines : Type 0
CleanOutlines =
    (s : State) (image : Image) (options : Options) (with_output : Bool) (text : List ℕ)
    → IsOutline s image [] options with_output text → (HasErrorLine text → ⊥) → s.events ≡ []

-- The theorems on whole runs of a program, from their parts.
use Rattle.std.proofs.Common.{◌≡◌, ℕ, ◌<◌, ◌^◌, List, slice_index}
use Rattle.guest_elf.specs.declared.image.Image.{Image}
use Rattle.run_values.specs.declared.alteration.Alteration.{Alteration}
use Rattle.guest_machine.specs.State.{State}
use Rattle.guest_machine.specs.Run.{after_marks, pre, post}
use Rattle.guest_machine.specs.declared.setup.Setup.{Setup}
use Rattle.clean_reports.specs.Agreement.{StatesAgree}
use Rattle.clean_reports.specs.Disturbed.{IsStartOf, IsDisturbed}
use Rattle.clean_reports.specs.Laws.{StepsAgree, RunsAgree, CleanRuns, PowerOn, CleanReports}
use Rattle.clean_reports.specs.Marks.{DefineNothing, HideNothing}
use Rattle.clean_reports.specs.Uses.{NoUse}
use Rattle.clean_reports.proofs.HeapRuns.{heap-stays-open, blocks-open}
use Rattle.clean_reports.proofs.Inputs.{has-bytes}
use Rattle.clean_reports.proofs.Reports.{reports-agree}
use Rattle.clean_reports.proofs.Runs.{after-agree, begun, loose-along, runs-agree, states-sym}
use Rattle.clean_reports.proofs.Steps.{StepAgrees, step-agrees}

-- a run and a disturbed one, and one from another start
module _ (image : Image) (start : State) (setup : Setup) (law : StepAgrees setup) (marks : List Alteration) (n : ℕ)
    (begins : IsStartOf image start) (loose : DefineNothing start.core.isa marks)
    (hide : HideNothing start.core.blocks.begin marks)
    (none : NoUse (pre start setup marks n).events) where
  pub run-agrees : (states : ℕ → State) → IsDisturbed start setup marks n states
      → StatesAgree (post start setup marks n) (after_marks n marks (states n))
  unfolding post
  run-agrees states run =
      after-agree n marks (pre start setup marks n) (states n) (loose-along start setup marks n loose)
      (runs-agree start setup law marks states loose n run
      (λ k h. blocks-open _ (heap-stays-open image start setup marks begins hide k)) none)

  pub start-agrees : (other : State) → StatesAgree start other
      → StatesAgree (post start setup marks n) (post other setup marks n)
  unfolding post
  start-agrees other first =
      after-agree n marks (pre start setup marks n) (pre other setup marks n) (loose-along start setup marks n loose)
      (begun start other setup law marks loose first n
      (λ k h. blocks-open _ (heap-stays-open image start setup marks begins hide k)) none)

-- an input of bytes
module _ (input : List ℕ) (fits : (k : ℕ) → slice_index input k < 2 ^ 8) where
  pub law-of : (setup : Setup) → setup.input ≡ input → StepAgrees setup
  law-of setup is = step-agrees setup (has-bytes input fits setup is)

  pub steps-agree : StepsAgree input
  steps-agree setup s t is = law-of setup is s t

  pub any-runs-agree : RunsAgree input
  any-runs-agree start setup marks states n is loose run opened none =
      runs-agree start setup (law-of setup is) marks states loose n run opened none

  pub clean-runs : CleanRuns input
  clean-runs image start setup marks states n begins is loose hide run none =
      run-agrees image start setup (law-of setup is) marks n begins loose hide none states run

  pub power-on : PowerOn input
  power-on image start other setup marks n begins is loose hide first none =
      start-agrees image start setup (law-of setup is) marks n begins loose hide none other first

  pub clean-reports : CleanReports input
  clean-reports image start setup marks states n begins is loose hide run none rules options step input_len text =
      let agree = clean-runs image start setup marks states n begins is loose hide run none in (
        reports-agree _ _ image rules options step input_len text agree,
        reports-agree _ _ image rules options step input_len text (states-sym _ _ agree),
      )

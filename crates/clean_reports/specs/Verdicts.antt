-- Whether a run is clean up to a step: no mark is in the way, and no error is a use. Otherwise, which mark comes first,
-- or which error.
use Rattle.std.specs.Prelude.{◌≡◌, ℕ, suc, ◌<◌, ◌↔◌, ◌||◌, Bool, false, true, not, List, Some, slice_get, take}
use Rattle.std.specs.List.{list_any}
use Rattle.error_events.specs.declared.event.Event.{Event}
use Rattle.guest_elf.specs.declared.image.Image.{Image}
use Rattle.guest_elf.specs.declared.profile.Isa.{Isa}
use Rattle.run_values.specs.declared.alteration.Alteration.{Alteration}
use Rattle.suppressions.specs.Rules.{Rule}
use Rattle.replay_report.specs.Report.{IsReport}
use Rattle.replay_report.specs.declared.options.Options.{Options}
use Rattle.guest_machine.specs.Exec.{is_running}
use Rattle.guest_machine.specs.State.{State}
use Rattle.guest_machine.specs.Run.{after_marks, pre, post}
use Rattle.guest_machine.specs.Streams.{is_idle}
use Rattle.guest_machine.specs.declared.setup.Setup.{Setup}
use Rattle.clean_reports.specs.Agreement.{StatesAgree}
use Rattle.clean_reports.specs.Disturbed.{IsDisturbed}
use Rattle.clean_reports.specs.Marks.{is_in_the_way}
use Rattle.clean_reports.specs.Uses.{NoUse, first_use}
use Rattle.clean_reports.specs.declared.verdict.FirstUse.{FirstUse}
use Rattle.clean_reports.specs.declared.verdict.Verdict.{Verdict}
use Rattle.clean_reports.specs.declared.verdict.Verdict.TheVariants.{Clean, Mark as ByMark, Use}

-- no mark of a list is in the way of a run with an instruction set and a heap region that begins at an address
abbrev pub NoneInTheWay : Isa → ℕ → List Alteration → Type 0
NoneInTheWay isa heap marks = list_any (is_in_the_way isa heap) marks ≡ false

-- the mark at an index is the first that is in the way
pub record IsFirstInTheWay (isa : Isa) (heap : ℕ) (marks : List Alteration) (index : ℕ)
    (mark : Alteration) : Type 0 where
  pub at : slice_get marks index ≡ Some mark
  pub stands : is_in_the_way isa heap mark ≡ true
  pub first : NoneInTheWay isa heap (take index marks)

-- step k raises the first use of a run
pub record RaisesFirstUse (start : State) (setup : Setup) (marks : List Alteration) (k : ℕ) : Type 0 where
  pub before : NoUse (pre start setup marks k).events
  pub after : NoUse (pre start setup marks (suc k)).events → ⊥

-- the first error that is a use, among those up to step n, and the step that raises it
pub record IsFirstUse (start : State) (setup : Setup) (marks : List Alteration) (n : ℕ)
    (found : FirstUse) : Type 0 where
  pub event : Event
  pub first : first_use (post start setup marks n).events ≡ Some event
  pub kind : found.kind ≡ event.kind
  pub trace : found.trace ≡ event.trace
  pub below : found.step < n
  pub raises : RaisesFirstUse start setup marks found.step

-- has a run ended at a state? It exited or stopped, or it rests in a jump to itself
unfoldable pub has_ended : State → Setup → Bool
has_ended s setup = not (is_running s.core.status) || is_idle s setup

-- the verdict on a run up to step n: on marks first, and then on errors, including suppressed ones; of a clean one also
-- whether it has ended by then
abbrev pub IsVerdict : State → Setup → List Alteration → ℕ → Verdict → Type 0
IsVerdict start setup marks n (Clean ended) =
    NoneInTheWay start.core.isa start.core.blocks.begin marks × NoUse (post start setup marks n).events
    × (ended ≡ has_ended (post start setup marks n) setup)
IsVerdict start setup marks n (ByMark index mark) =
    IsFirstInTheWay start.core.isa start.core.blocks.begin marks index mark
IsVerdict start setup marks n (Use found) =
    NoneInTheWay start.core.isa start.core.blocks.begin marks × IsFirstUse start setup marks n found

-- What is certified of a run up to step n: each disturbed run agrees with it, and has the same reports
pub record IsCertified (image : Image) (start : State) (setup : Setup) (marks : List Alteration) (n : ℕ) : Type 0 where
  pub runs : (states : ℕ → State) → IsDisturbed start setup marks n states
      → StatesAgree (post start setup marks n) (after_marks n marks (states n))
  pub reports : (states : ℕ → State) → IsDisturbed start setup marks n states
      → (rules : List Rule) (options : Options) (step input_len : ℕ) (text : List ℕ)
      → IsReport (post start setup marks n) image rules options step input_len text
      ↔ IsReport (after_marks n marks (states n)) image rules options step input_len text

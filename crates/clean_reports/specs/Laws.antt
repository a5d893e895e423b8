-- The laws: what undefined and inaccessible bytes hold has no influence on a run without uses. An `input` is a list of
-- bytes: each law with an input is the contract of a function that takes it as a slice.
use Rattle.std.specs.Prelude.{◌≡◌, ℕ, ◌<◌, ◌≤◌, ◌↔◌, List, []}
use Rattle.guest_elf.specs.File.{IsImageFor}
use Rattle.guest_elf.specs.declared.profile.Profile.{Profile}
use Rattle.guest_elf.specs.declared.image.Image.{Image}
use Rattle.guest_heap.specs.Blocks.{end_of}
use Rattle.shadow_memory.specs.Ranges.{above}
use Rattle.error_events.specs.declared.kind.Kind.{Kind}
use Rattle.run_values.specs.declared.alteration.Alteration.{Alteration}
use Rattle.suppressions.specs.Rules.{Rule}
use Rattle.replay_report.specs.Report.{IsReport}
use Rattle.replay_report.specs.declared.options.Options.{Options}
use Rattle.guest_machine.specs.State.{Core, State}
use Rattle.guest_machine.specs.Errors.{access_errors}
use Rattle.guest_machine.specs.Exec.{exec}
use Rattle.guest_machine.specs.Run.{pre, post, start_state, after_marks}
use Rattle.guest_machine.specs.declared.setup.Setup.{Setup}
use Rattle.clean_reports.specs.Agreement.{AreBytes, StatesAgree}
use Rattle.clean_reports.specs.Uses.{NoUse}
use Rattle.clean_reports.specs.Marks.{DefineNothing, HideNothing, MissTheHeap}
use Rattle.clean_reports.specs.Heap.{BlocksAreOpen, HeapIsOpen, HeapIsClosed, IsInLive}
use Rattle.clean_reports.specs.Disturbed.{IsStartOf, IsDisturbed, noisy_run}

-- from states that agree, a step that raises no use leads to states that agree
abbrev pub StepsAgree : List ℕ → Type 0
StepsAgree input =
    (setup : Setup) (s t : State) → setup.input ≡ input → BlocksAreOpen s.core → StatesAgree s t
    → NoUse (exec s setup).events → StatesAgree (exec s setup) (exec t setup)

-- so does a run from any state, whatever is disturbed between its steps
abbrev pub RunsAgree : List ℕ → Type 0
RunsAgree input =
    (start : State) (setup : Setup) (marks : List Alteration) (states : ℕ → State) (n : ℕ) → setup.input ≡ input
    → DefineNothing start.core.isa marks → IsDisturbed start setup marks n states
    → ((k : ℕ) → k < n → BlocksAreOpen (post start setup marks k).core)
    → NoUse (pre start setup marks n).events → StatesAgree (pre start setup marks n) (states n)

-- states that agree have the same reports
abbrev pub ReportsAgree : Type 0
ReportsAgree =
    (s t : State) (image : Image) (rules : List Rule) (options : Options) (step input_len : ℕ) (text : List ℕ)
    → StatesAgree s t → IsReport s image rules options step input_len text
    → IsReport t image rules options step input_len text

-- The theorem on runs. A program's run without uses up to step n, under marks that define and hide nothing, agrees with
-- each disturbed run: status, output, errors, blocks and calls are the same.
abbrev pub CleanRuns : List ℕ → Type 0
CleanRuns input =
    (image : Image) (start : State) (setup : Setup) (marks : List Alteration) (states : ℕ → State) (n : ℕ)
    → IsStartOf image start → setup.input ≡ input → DefineNothing start.core.isa marks
    → HideNothing start.core.blocks.begin marks
    → IsDisturbed start setup marks n states → NoUse (pre start setup marks n).events
    → StatesAgree (post start setup marks n) (after_marks n marks (states n))

-- The plain case: only what undefined and inaccessible memory holds at power-on differs
abbrev pub PowerOn : List ℕ → Type 0
PowerOn input =
    (image : Image) (start other : State) (setup : Setup) (marks : List Alteration) (n : ℕ)
    → IsStartOf image start → setup.input ≡ input → DefineNothing start.core.isa marks
    → HideNothing start.core.blocks.begin marks
    → StatesAgree start other
    → NoUse (pre start setup marks n).events
    → StatesAgree (post start setup marks n) (post other setup marks n)

-- The theorem on reports: a report of such a run is the report of each disturbed run, and vice versa
abbrev pub CleanReports : List ℕ → Type 0
CleanReports input =
    (image : Image) (start : State) (setup : Setup) (marks : List Alteration) (states : ℕ → State) (n : ℕ)
    → IsStartOf image start → setup.input ≡ input → DefineNothing start.core.isa marks
    → HideNothing start.core.blocks.begin marks
    → IsDisturbed start setup marks n states → NoUse (pre start setup marks n).events
    → (rules : List Rule) (options : Options) (step input_len : ℕ) (text : List ℕ)
    → IsReport (post start setup marks n) image rules options step input_len text
    ↔ IsReport (after_marks n marks (states n)) image rules options step input_len text

-- There are disturbed runs: the run itself is one, and so is a run that gets any noise in its inaccessible bytes before
-- each step
pub record DisturbedRunsExist (input : List ℕ) : Type 0 where
  pub itself : (image : Image) (start : State) (setup : Setup) (marks : List Alteration) (n : ℕ)
      → IsStartOf image start → AreBytes start.bytes → setup.input ≡ input → DefineNothing start.core.isa marks
      → HideNothing start.core.blocks.begin marks
      → NoUse (pre start setup marks n).events
      → IsDisturbed start setup marks n (pre start setup marks)
  pub noisy : (image : Image) (start : State) (setup : Setup) (marks : List Alteration) (n : ℕ)
      → IsStartOf image start → AreBytes start.bytes → setup.input ≡ input → DefineNothing start.core.isa marks
      → HideNothing start.core.blocks.begin marks
      → NoUse (pre start setup marks n).events → (noise : ℕ → ℕ → ℕ) → ((k : ℕ) → AreBytes (noise k))
      → IsDisturbed start setup marks n (noisy_run start setup marks noise)

-- a program that was read from a file of bytes begins with bytes
abbrev pub ProgramsAreBytes : List ℕ → Type 0
ProgramsAreBytes file =
    (profile : Profile) (image : Image) → IsImageFor profile file image → AreBytes (start_state image).bytes

-- if marks hide nothing of the heap, each byte of a live block may be accessed at every step
abbrev pub HeapStaysOpen : Type 0
HeapStaysOpen =
    (image : Image) (start : State) (setup : Setup) (marks : List Alteration) → IsStartOf image start
    → HideNothing start.core.blocks.begin marks
    → (k : ℕ) → HeapIsOpen (post start setup marks k).core

-- if marks miss the heap, and the program was read from a file, no other byte of the heap region may be accessed
abbrev pub HeapStaysClosed : Type 0
HeapStaysClosed =
    (profile : Profile) (file : List ℕ) (image : Image) (start : State) (setup : Setup) (marks : List Alteration)
    → IsImageFor profile file image → IsStartOf image start → MissTheHeap start.core.blocks.begin marks
    → (k : ℕ) → HeapIsOpen (post start setup marks k).core × HeapIsClosed (post start setup marks k).core

-- so a load or a store that raises no error accesses only bytes of live blocks, as far as it is in the heap region
abbrev pub AccessesAreLive : Type 0
AccessesAreLive =
    (core : Core) (kind : Kind) (start n : ℕ) → HeapIsClosed core → access_errors core kind start n ≡ []
    → (i : ℕ) → i < n → core.blocks.begin ≤ above start i → above start i < end_of core.blocks
    → IsInLive core (above start i)

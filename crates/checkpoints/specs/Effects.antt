-- The effect of an edit: at which steps of a run the edit may show, and from which run to which it leads.
use Rattle.std.specs.Prelude.{◌≡◌, ℕ, ◌<◌, Bool, true, false, List}
use Rattle.guest_elf.specs.declared.profile.Isa.{Isa}
use Rattle.guest_machine.specs.State.{State}
use Rattle.instructions.specs.Codes.{len_of}
use Rattle.instructions.specs.declared.code.Code.{Code}
use Rattle.guest_machine.specs.Run.{poked, marks_at}
use Rattle.guest_machine.specs.Laws.{SharesFront, Extends}
use Rattle.guest_machine.specs.declared.setup.Setup.{Setup}
use Rattle.run_values.specs.declared.alteration.Alteration.{Alteration}
use Rattle.run_values.specs.declared.span.Span.{Span}
use Rattle.checkpoints.specs.Words.{IsCodeIn}
use Rattle.checkpoints.specs.FirstEffects.{IsBelowFirst, MarkShows, InputShows, EndShows, HeapShows, PatchShows}
use Rattle.checkpoints.specs.declared.effect.Effect.{Effect}
use Rattle.checkpoints.specs.declared.effect.Effect.TheVariants.{Nowhere, After, Input, End, Heap, Patch}
use Rattle.checkpoints.specs.declared.effect.Effect.TheVariants.{Anew}
use Rattle.checkpoints.specs.Writes.{touch_code}

-- the steps of a run at which an edit with this effect may show
abbrev pub EffectShows : Effect → State → Setup → List Alteration → ℕ → Type 0
EffectShows Nowhere start setup marks k = ⊥
EffectShows (After s) start setup marks k = MarkShows s k
EffectShows (Input offset) start setup marks k = InputShows offset start setup marks k
EffectShows End start setup marks k = EndShows start setup marks k
EffectShows Heap start setup marks k = HeapShows start setup marks k
EffectShows (Patch addr code) start setup marks k = PatchShows addr (len_of code) start setup marks k
EffectShows (Anew addr code) start setup marks k = 0 < k

-- a result says whether something holds at a step or before it
abbrev pub Tells : (ℕ → Type 0) → ℕ → Bool → Type 0
Tells P k true = IsBelowFirst P k → ⊥
Tells P k false = IsBelowFirst P k

-- if the effect writes a code, that is in these ranges
abbrev pub WritesWithin : List Span → Effect → Type 0
WritesWithin ranges (Patch addr code) = IsCodeIn ranges addr (len_of code)
WritesWithin ranges (Anew addr code) = IsCodeIn ranges addr (len_of code)
WritesWithin ranges _ = Unit {0}

-- the effect writes a code
abbrev pub IsWrite : Effect → Type 0
IsWrite (Patch addr code) = Unit {0}
IsWrite (Anew addr code) = Unit {0}
IsWrite _ = ⊥

-- the effect of an edit that changes nothing but the setup
abbrev pub IsOfSetup : Effect → Type 0
IsOfSetup Nowhere = Unit {0}
IsOfSetup (Input offset) = Unit {0}
IsOfSetup End = Unit {0}
IsOfSetup Heap = Unit {0}
IsOfSetup _ = ⊥

-- ---- from which run to which

-- two lists of marks differ only in those of one step
abbrev pub DifferAtStep : ℕ → List Alteration → List Alteration → Type 0
DifferAtStep s marks edited = (k : ℕ) → (k ≡ s → ⊥) → marks_at k marks ≡ marks_at k edited

-- two setups differ only in the options of the heap
pub record DifferInHeap (setup other : Setup) : Type 0 where
  pub input : setup.input ≡ other.input
  pub hooks : setup.hooks ≡ other.hooks

-- setups and marks before and after an edit with this effect, of runs with an instruction set. A code of which a mark
-- writes a byte too, or may go by one, is written anew, as the machines from the mark on hold what the mark wrote, or
-- have gone by the code that was there
abbrev pub DifferBy : Isa → Effect → Setup → List Alteration → Setup → List Alteration → Type 0
DifferBy isa Nowhere setup marks other edited = (setup ≡ other) × (marks ≡ edited)
DifferBy isa (After s) setup marks other edited = (setup ≡ other) × DifferAtStep s marks edited
DifferBy isa (Input offset) setup marks other edited = SharesFront offset setup other × (marks ≡ edited)
DifferBy isa End setup marks other edited = Extends setup other × (marks ≡ edited)
DifferBy isa Heap setup marks other edited = DifferInHeap setup other × (marks ≡ edited)
DifferBy isa (Patch addr code) setup marks other edited =
    (setup ≡ other) × (marks ≡ edited) × (touch_code isa marks addr (len_of code) ≡ false)
DifferBy isa (Anew addr code) setup marks other edited = (setup ≡ other) × (marks ≡ edited)

-- a state with the code written, if the effect writes one
abbrev pub written_by : Effect → State → State
written_by (Patch addr code) s = poked s addr code
written_by (Anew addr code) s = poked s addr code
written_by _ s = s

-- the effect of another code at an address: whether a mark writes a byte of it, too, or may go by one
abbrev pub effect_by : Bool → ℕ → Code → Effect
effect_by true addr code = Anew addr code
effect_by false addr code = Patch addr code

abbrev pub code_effect : Isa → List Alteration → ℕ → Code → Effect
code_effect isa marks addr code = effect_by (touch_code isa marks addr (len_of code)) addr code

-- a run, by what it begins with
pub record Run : Type 0 where
  pub start : State
  pub setup : Setup
  pub marks : List Alteration

-- an edit with this effect leads from one run to another
pub record LeadsTo (effect : Effect) (one other : Run) : Type 0 where
  pub start : other.start ≡ written_by effect one.start
  pub differ : DifferBy one.start.core.isa effect one.setup one.marks other.setup other.marks

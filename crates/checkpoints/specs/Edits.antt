-- What an edit leaves of a trail, by the edit's effect: for which run the trail is right then, and which of its
-- machines are kept.
use Rattle.std.specs.Prelude.{◌≡◌, ℕ, ◌⊎◌, List, Bool, Option, true, false, slice_index_or}
use Rattle.guest_machine.specs.State.{State}
use Rattle.instructions.specs.Codes.{len_of}
use Rattle.instructions.specs.declared.code.Code.{Code}
use Rattle.guest_machine.specs.Run.{poked}
use Rattle.guest_machine.specs.Shows.{Shows}
use Rattle.guest_machine.specs.declared.machine.Machine.{Machine}
use Rattle.guest_machine.specs.declared.setup.Setup.{Setup}
use Rattle.run_values.specs.declared.alteration.Alteration.{Alteration}
use Rattle.checkpoints.specs.FirstEffects.{IsBelowFirst}
use Rattle.checkpoints.specs.Effects.{EffectShows, Tells, DifferBy, Run, LeadsTo, written_by}
use Rattle.checkpoints.specs.Work.{IsBelow, lowered}
use Rattle.checkpoints.specs.Trails.{machines_of, is_short, last_held, spacing_of, KeepsJust, KeepsOnly, IsRightFor}
use Rattle.checkpoints.specs.declared.trail.Trail.{Trail}
use Rattle.checkpoints.specs.declared.effect.Effect.{Effect}
use Rattle.checkpoints.specs.declared.effect.Effect.TheVariants.{Patch}
use Rattle.checkpoints.specs.Writes.{touch_code}

-- ---- for which run it is right

abbrev pub IsRightForRun : Trail → Run → Type 0
IsRightForRun trail run = IsRightFor trail run.start run.setup run.marks

-- for each run to which the edit leads
abbrev pub IsRightForLed : Effect → Trail → Trail → Type 0
IsRightForLed effect old new =
    (one other : Run) → LeadsTo effect one other → IsRightForRun old one → IsRightForRun new other

-- for that run, except for a code that is still to be written
abbrev pub IsRightForEdited : Effect → Trail → Trail → Type 0
IsRightForEdited effect old new =
    (start : State) (setup other : Setup) (marks edited : List Alteration)
    → DifferBy start.core.isa effect setup marks other edited
    → IsRightFor old start setup marks → IsRightFor new start other edited

-- for a start with a code written, if no mark writes a byte of it or may go by one
abbrev pub IsRightForPoked : ℕ → Code → Trail → Trail → Type 0
IsRightForPoked addr code old new =
    (start : State) (setup : Setup) (marks : List Alteration)
    → touch_code start.core.isa marks addr (len_of code) ≡ false
    → IsRightFor old start setup marks → IsRightFor new (poked start addr code) setup marks

-- machine i of the new trail is that of the old one, with the code written if the edit writes one
abbrev pub HasFollowed : Effect → Trail → Trail → ℕ → Type 0
HasFollowed effect old new i =
    (d : Machine) (s : State) → Shows (slice_index_or (machines_of old) i d) s
    → Shows (slice_index_or (machines_of new) i d) (written_by effect s)

-- ---- which machines are kept

-- a result says, for each run for which a trail is right, whether the edit shows at a step or before it
abbrev pub TellsShown : Effect → Trail → ℕ → Bool → Type 0
TellsShown effect trail k told =
    (start : State) (setup : Setup) (marks : List Alteration) → IsRightFor trail start setup marks
    → Tells (EffectShows effect start setup marks) k told

-- exactly those below the edit's first effect
abbrev pub KeepsBelowEffect : Effect → Trail → Trail → Type 0
KeepsBelowEffect effect old new =
    (start : State) (setup : Setup) (marks : List Alteration) → IsRightFor old start setup marks
    → KeepsJust (IsBelowFirst (EffectShows effect start setup marks)) old new

-- and if memory ran out, fewer of them, which the trail says
abbrev pub KeepsBelowEffectOrIsShort : Effect → Trail → Trail → Type 0
KeepsBelowEffectOrIsShort effect old new =
    (start : State) (setup : Setup) (marks : List Alteration) → IsRightFor old start setup marks
    → (KeepsJust (IsBelowFirst (EffectShows effect start setup marks)) old new × (is_short new ≡ is_short old))
    ⊎ (KeepsOnly (IsBelowFirst (EffectShows effect start setup marks)) old new × (is_short new ≡ true))

-- only a written code makes a trail short, and a short one stays so; by whether it is short before and after
abbrev pub MayShorten : Effect → Bool → Bool → Type 0
MayShorten (Patch addr code) old new = old ≡ true → new ≡ true
MayShorten _ old new = new ≡ old

-- and the same for the trails
abbrev pub StaysWhole : Effect → Trail → Trail → Type 0
StaysWhole effect old new = MayShorten effect (is_short old) (is_short new)

-- if the machines are kept below a step, the last step at which one is held follows from it
abbrev pub KeepsLower : Type 0
KeepsLower =
    (f : Option ℕ) (old new : Trail) → spacing_of new ≡ spacing_of old → KeepsJust (IsBelow f) old new
    → last_held new ≡ lowered (spacing_of old) (last_held old) f

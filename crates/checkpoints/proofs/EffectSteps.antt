-- What the machine at a step shows of an edit's effect, and how far the edited run does the same.
use Rattle.std.proofs.Common.{◌≡◌, ℕ, ◌+◌, ◌-◌, ◌*◌, ◌<◌, ◌≤◌, nat_lt, Bool, true, false, List, Option, Some, None}
use Rattle.std.proofs.Common.{refl, ap, sym, ◌∙◌, subst, arith, inl, inr, length, take, min, get_or}
use Rattle.std.specs.Prelude.{is_some}
use Rattle.std.proofs.lemmas.Bool.{cases_lt, true≢false, false≢true}
use Rattle.std.proofs.lemmas.Bool.Decides.{nat_tests}
use Rattle.std.proofs.lemmas.List.{length-take, get_or-take}
use Rattle.guest_machine.specs.State.{State}
use Rattle.instructions.specs.declared.code.Code.{Code}
use Rattle.guest_machine.specs.Run.{pre, poked}
use Rattle.guest_machine.specs.Shows.{Shows}
use Rattle.guest_machine.specs.Laws.{KeepsInput, KeepsHeap, KeepsEnd, EndStays, ReadsOn}
use Rattle.run_values.specs.declared.alteration.Alteration.{Alteration}
use Rattle.guest_machine.specs.declared.setup.Setup.{Setup}
use Rattle.checkpoints.specs.FirstUses.{uses_code, first_of_code, IsFirstBelow}
use Rattle.checkpoints.specs.FirstEffects.{IsBelowFirst, MarkShows, InputShows, EndShows, HeapShows, PatchShows}
use Rattle.checkpoints.specs.FirstEffects.{ShowsAfter}
use Rattle.checkpoints.specs.Effects.{EffectShows, DifferBy, Tells, written_by}
use Rattle.checkpoints.specs.Edits.{IsRightForEdited, IsRightForLed, IsRightForPoked, HasFollowed, StaysWhole}
use Rattle.checkpoints.specs.Trails.{machines_of, table_of, loaded_of, last_held, is_short, spacing_of, IsRightFor}
use Rattle.checkpoints.specs.Trails.{KeepsJust}
use Rattle.checkpoints.proofs.SpacingSteps.{up}
use Rattle.std.proofs.Common.{le_trans}
use Rattle.checkpoints.specs.Words.{IsCodeIn}
use Rattle.checkpoints.specs.declared.trail.Trail.{Trail}
use Rattle.checkpoints.specs.declared.effect.Effect.{Effect}
use Rattle.checkpoints.specs.declared.effect.Effect.TheVariants.{Nowhere, After, Input, End, Heap, Patch}
use Rattle.checkpoints.specs.declared.effect.Effect.TheVariants.{Anew}
use Rattle.checkpoints.proofs.RunSteps.{SameStep, reads-rise, no-calls, unseen-before, same-before-input}
use Rattle.checkpoints.proofs.RunSteps.{same-before-end, same-before-heap, same-before-mark}
use Rattle.checkpoints.proofs.TrailSteps.{first-of-code, right-for-fewer, keeps-just, shows-same}

-- ---- what is told

tells : (P : ℕ → Type 0) (k : ℕ) (told : Bool) → (told ≡ true → IsBelowFirst P k → ⊥)
    → (told ≡ false → IsBelowFirst P k) → Tells P k told
tells P k true shown hidden = shown refl
tells P k false shown hidden = hidden refl

-- by the step, for marks
pub told-after : (s k n : ℕ) → n ≡ k → Tells (MarkShows s) k (nat_lt s n)
told-after s k n e = tells (MarkShows s) k (nat_lt s n)
    (λ told hidden. let past : s < n = grind (arith, nat_tests) in hidden (s + 1) (omega arith) refl)
    (λ told j l at. let early : n ≤ s = grind (arith, nat_tests) in omega arith)

-- by the position in the input
pub told-input : ReadsOn → (start : State) (setup : Setup) (marks : List Alteration) (offset position k : ℕ)
    → position ≡ (pre start setup marks k).position
    → Tells (InputShows offset start setup marks) k (nat_lt offset position)
told-input law start setup marks offset position k e =
    tells (InputShows offset start setup marks) k (nat_lt offset position)
    (λ told hidden. let past : offset < position = grind (arith, nat_tests) in hidden k (omega arith) (omega arith))
    (λ told j l read. let unread : position ≤ offset = grind (arith, nat_tests) in
    let rises = reads-rise law start setup marks k j l in omega arith)

-- by whether the end was seen
pub told-end : EndStays → (start : State) (setup : Setup) (marks : List Alteration) (seen : Bool) (k : ℕ)
    → seen ≡ (pre start setup marks k).end_seen
    → Tells (EndShows start setup marks) k seen
told-end law start setup marks seen k e = tells (EndShows start setup marks) k seen
    (λ told hidden. hidden k (omega arith) (sym e ∙ told))
    (λ told j l before. true≢false (sym before ∙ unseen-before law start setup marks k j l (sym e ∙ told)))

-- by the number of heap calls
pub told-heap : KeepsHeap → (start : State) (setup : Setup) (marks : List Alteration) (calls k : ℕ)
    → calls ≡ (pre start setup marks k).heap_calls
    → Tells (HeapShows start setup marks) k (nat_lt 0 calls)
told-heap law start setup marks calls k e = tells (HeapShows start setup marks) k (nat_lt 0 calls)
    (λ told hidden. let some : 0 < calls = grind (arith, nat_tests) in hidden k (omega arith) (omega arith))
    (λ told j l called. let few : calls ≤ 0 = grind (arith, nat_tests) in
    let none = no-calls law start setup marks k j l (omega arith) in omega arith)

-- by the step, for a code that is written anew
pub told-anew : (k n : ℕ) → n ≡ k → Tells (λ (j : ℕ). 0 < j) k (nat_lt 0 n)
told-anew k n e = tells (λ (j : ℕ). 0 < j) k (nat_lt 0 n)
    (λ told hidden. let past : 0 < n = grind (arith, nat_tests) in hidden k (omega arith) (omega arith))
    (λ told j l at. let early : n ≤ 0 = grind (arith, nat_tests) in omega arith)

-- by the first step that passes a test
pub told-use : (p : ℕ → Bool) (k : ℕ) (found : Option ℕ) → IsFirstBelow p k found
    → Tells (ShowsAfter p) k (is_some found)
told-use p k None unused = λ j l shown.
    let next = shown.1 in
    false≢true (sym (unused shown.0 (omega arith)) ∙ shown.2)
told-use p k (Some s) first =
    λ hidden. let l = first.0 in hidden (s + 1) (omega arith) (s, refl, first.1)

-- by the first use of a code
pub told-code : (trail : Trail) (start : State) (setup : Setup) (marks : List Alteration) (addr len k n : ℕ) → n ≡ k
    → k ≤ last_held trail → IsRightFor trail start setup marks → IsCodeIn (loaded_of trail) addr len
    → Tells (PatchShows addr len start setup marks) k (is_some (first_of_code (table_of trail) addr len n))
told-code trail start setup marks addr len k n e l h code =
    subst (λ m. Tells (PatchShows addr len start setup marks) k (is_some (first_of_code (table_of trail) addr len m)))
    (sym e)
    (told-use (uses_code start setup marks addr len) k (first_of_code (table_of trail) addr len k)
    (first-of-code trail start setup marks addr len k h code l))

-- no edit shows at step 0
pub hidden-at-start : (effect : Effect) (trail : Trail) (start : State) (setup : Setup) (marks : List Alteration)
    → IsRightFor trail start setup marks
    → IsBelowFirst (EffectShows effect start setup marks) 0
unfolding pre
hidden-at-start Nowhere trail start setup marks h j l shown = shown
hidden-at-start (After s) trail start setup marks h j l shown = omega arith
hidden-at-start (Input offset) trail start setup marks h j l shown =
    let first : j ≡ 0 = omega arith in
    let read : offset < start.position = subst (InputShows offset start setup marks) first shown in
    let none = h.nothing_read in
    omega arith
hidden-at-start End trail start setup marks h j l shown =
    let first : j ≡ 0 = omega arith in
    let seen : start.end_seen ≡ true = subst (EndShows start setup marks) first shown in
    true≢false (sym seen ∙ h.nothing_ended)
hidden-at-start Heap trail start setup marks h j l shown =
    let first : j ≡ 0 = omega arith in
    let called : 0 < start.heap_calls = subst (HeapShows start setup marks) first shown in
    let none = h.nothing_called in
    omega arith
hidden-at-start (Patch addr code) trail start setup marks h j l shown = let next = shown.1 in omega arith
hidden-at-start (Anew addr code) trail start setup marks h j l shown = omega arith

-- ---- how far the edited run does the same

-- the laws of a step that this rests on
pub record Laws : Type 0 where
  pub input : KeepsInput
  pub end : KeepsEnd
  pub reads : ReadsOn
  pub stays : EndStays
  pub heap : KeepsHeap

same-run : (start : State) (setup other : Setup) (marks edited : List Alteration) (k : ℕ) → setup ≡ other
    → marks ≡ edited
    → SameStep start setup marks other edited k
same-run start setup other marks edited k s m =
    subst (λ (o : Setup). SameStep start setup marks o edited k) s
    (subst (λ (ms : List Alteration). SameStep start setup marks setup ms k) m (record { touches = refl; exec = refl }))

with-marks : (start : State) (setup other : Setup) (marks edited : List Alteration) (k : ℕ) → marks ≡ edited
    → SameStep start setup marks other marks k
    → SameStep start setup marks other edited k
with-marks start setup other marks edited k m h = subst (λ (ms : List Alteration). SameStep start setup marks other ms
    k) m h

not-past : (a b : ℕ) → (a < b → ⊥) → b ≤ a
not-past a b h = elim (cases_lt a b) [
  | inl past ↦ absurd (h past)
  | inr within ↦ within
]

not-seen : (b : Bool) → (b ≡ true → ⊥) → b ≡ false
not-seen true h = absurd (h refl)
not-seen false h = refl

-- each step before one at which the edit hasn't shown
pub goes-alike : Laws → (effect : Effect) (start : State) (setup other : Setup) (marks edited : List Alteration) (n : ℕ)
    → DifferBy start.core.isa effect setup marks other edited
    → IsBelowFirst (EffectShows effect start setup marks) n → (k : ℕ) → k < n
    → SameStep start setup marks other edited k
goes-alike laws Nowhere start setup other marks edited n d hidden k l =
    same-run start setup other marks edited k d.0 d.1
goes-alike laws (After s) start setup other marks edited n d hidden k l =
    let low : n ≤ s = not-past s n (λ past. hidden (s + 1) (omega arith) refl) in
    subst (λ (o : Setup). SameStep start setup marks o edited k) d.0
    (same-before-mark start setup marks edited s d.1 k (omega arith))
goes-alike laws (Input offset) start setup other marks edited n d hidden k l =
    let unread : (pre start setup marks n).position ≤ offset = not-past offset (pre start setup marks n).position
    (hidden n (omega arith)) in
    with-marks start setup other marks edited k d.1
    (same-before-input laws.input laws.reads start setup other marks offset n d.0 unread k l)
goes-alike laws End start setup other marks edited n d hidden k l =
    let unseen : (pre start setup marks n).end_seen ≡ false = not-seen (pre start setup marks n).end_seen
    (hidden n (omega arith)) in
    with-marks start setup other marks edited k d.1
    (same-before-end laws.end laws.stays start setup other marks n d.0 unseen k l)
goes-alike laws Heap start setup other marks edited n d hidden k l =
    let few = not-past 0 (pre start setup marks n).heap_calls (hidden n (omega arith)) in
    let none : (pre start setup marks n).heap_calls ≡ 0 = omega arith in
    with-marks start setup other marks edited k d.1 (same-before-heap laws.heap start setup other marks n d.0 none k l)
goes-alike laws (Patch addr code) start setup other marks edited n d hidden k l =
    same-run start setup other marks edited k d.0 d.1
goes-alike laws (Anew addr code) start setup other marks edited n d hidden k l =
    same-run start setup other marks edited k d.0 d.1

-- ---- the machines below the effect

pub right-cut : Laws → (effect : Effect) (old new : Trail) (kept : ℕ) → machines_of new ≡ take kept (machines_of old)
    → table_of new ≡ table_of old → spacing_of new ≡ spacing_of old → 0 < kept
    → (start : State) (setup other : Setup) (marks edited : List Alteration)
    → IsBelowFirst (EffectShows effect start setup marks) (spacing_of old * (kept - 1))
    → DifferBy start.core.isa effect setup marks other edited → IsRightFor old start setup marks
    → IsRightFor new start other edited
right-cut laws effect old new kept e t sp some start setup other marks edited hidden d h =
    right-for-fewer old new kept (spacing_of old * (kept - 1)) start setup marks other edited e t sp some (omega arith)
    (goes-alike laws effect start setup other marks edited (spacing_of old * (kept - 1)) d hidden) h

pub keeps-cut : (P : ℕ → Type 0) (old new : Trail) (kept : ℕ) → machines_of new ≡ take kept (machines_of old)
    → spacing_of new ≡ spacing_of old → 0 < kept
    → ((i : ℕ) → kept ≤ i → i < length (machines_of old) → IsBelowFirst P (spacing_of old * i) → ⊥)
    → IsBelowFirst P (spacing_of old * (kept - 1)) → KeepsJust (IsBelowFirst P) old new
keeps-cut P old new kept e sp some from last =
    keeps-just (IsBelowFirst P) old new kept e sp some
    (λ i l low j below shown. last j (le_trans below (up (spacing_of old) i (kept - 1) (omega arith))) shown)
    (λ i l hidden. elim (cases_lt i kept) [
      | inl low ↦ low
      | inr high ↦ absurd (from i high l hidden)
    ])

-- ---- the run that is led to

-- where a code was written
pub led-by-code : (addr : ℕ) (code : Code) (old new : Trail) → IsRightForPoked addr code old new
    → IsRightForLed (Patch addr code) old new
led-by-code addr code old new right one other l h =
    let poked-start : IsRightFor new (poked one.start addr code) one.setup one.marks = right one.start one.setup
    one.marks l.differ.2 h in
    let setup = subst (λ (s : Setup). IsRightFor new (poked one.start addr code) s one.marks) l.differ.0 poked-start in
    let marks = subst (λ (ms : List Alteration). IsRightFor new (poked one.start addr code) other.setup ms) l.differ.1
    setup in
    subst (λ (s : State). IsRightFor new s other.setup other.marks) (sym l.start) marks

-- and where none was
abbrev pub WritesNothing : Effect → Type 0
WritesNothing effect =
    ((addr : ℕ) (code : Code) → effect ≡ Patch addr code → ⊥) × ((addr : ℕ) (code : Code) → effect ≡ Anew addr code → ⊥)

pub unwritten : (effect : Effect) → WritesNothing effect → (s : State) → written_by effect s ≡ s
unwritten Nowhere none s = refl
unwritten (After step) none s = refl
unwritten (Input offset) none s = refl
unwritten End none s = refl
unwritten Heap none s = refl
unwritten (Patch addr code) none s = absurd (none.0 addr code refl)
unwritten (Anew addr code) none s = absurd (none.1 addr code refl)

pub led-by-cut : (effect : Effect) → WritesNothing effect → (old new : Trail) → IsRightForEdited effect old new
    → IsRightForLed effect old new
led-by-cut effect none old new right one other l h =
    let start : other.start ≡ one.start = l.start ∙ unwritten effect none one.start in
    subst (λ (s : State). IsRightFor new s other.setup other.marks) (sym start)
    (right one.start one.setup other.setup one.marks other.marks l.differ h)

pub followed-by-cut : (effect : Effect) → WritesNothing effect → (old new : Trail) (kept : ℕ)
    → machines_of new ≡ take kept (machines_of old)
    → (i : ℕ) → i < length (machines_of new) → HasFollowed effect old new i
followed-by-cut effect none old new kept e i l d s h =
    let size : length (machines_of new) ≡ min kept (length (machines_of old)) = ap length e
    ∙ length-take kept (machines_of old) in
    let same : get_or (machines_of new) i d ≡ get_or (machines_of old) i d = ap (λ ms. get_or ms i d) e
    ∙ get_or-take kept (machines_of old) i d (omega arith) in
    subst (λ (t : State). Shows (get_or (machines_of new) i d) t) (sym (unwritten effect none s))
    (shows-same _ _ s (sym same) h)

pub whole-by-cut : (effect : Effect) (old new : Trail) → is_short new ≡ is_short old → StaysWhole effect old new
whole-by-cut Nowhere old new e = e
whole-by-cut (After step) old new e = e
whole-by-cut (Input offset) old new e = e
whole-by-cut End old new e = e
whole-by-cut Heap old new e = e
whole-by-cut (Patch addr code) old new e = λ h. e ∙ h
whole-by-cut (Anew addr code) old new e = e

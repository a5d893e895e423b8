-- The next and the last step at which something holds, as steps are looked at one after another.
use Rattle.std.proofs.Common.{◌≡◌, ℕ, ◌+◌, ◌<◌, ◌≤◌, ◌||◌, max, Bool, true, false, cond, List, Option, Some, None}
use Rattle.std.proofs.Common.{length}
use Rattle.std.proofs.Common.{refl, ap, sym, ◌∙◌, subst, arith, inl, inr}
use Rattle.std.specs.Prelude.{Decides, is_some}
use Rattle.std.proofs.lemmas.Bool.{cases_lt, true≢false}
use Rattle.guest_machine.specs.State.{State}
use Rattle.guest_machine.specs.Exec.{exec, touches, touched_of, is_running}
use Rattle.guest_machine.specs.Run.{pre, post}
use Rattle.guest_machine.specs.Laws.{StaysHalted}
use Rattle.guest_machine.specs.Spans.{covers}
use Rattle.run_values.specs.declared.alteration.Alteration.{Alteration}
use Rattle.guest_machine.specs.declared.setup.Setup.{Setup}
use Rattle.run_values.specs.declared.span.Span.{Span}
use Rattle.checkpoints.specs.Searches.{Meets, HitsIn, Hits, IsLast}
use Rattle.checkpoints.specs.declared.searches.Sought.{Sought}
use Rattle.checkpoints.specs.declared.searches.Watch.{Watch}
use Rattle.checkpoints.specs.declared.searches.Watch.TheVariants.{Run, Read, Write, Shadow as OfShadow, Error}
use Rattle.checkpoints.proofs.Halted.{halted-after}

-- a step that isn't one where a test says so
pub not-told : (b : Bool) (P : Type 0) → b ≡ false → Decides b P → P → ⊥
not-told b P e d p = true≢false (sym (d.1 p) ∙ e)

-- a range that has no address meets none
meets-none : (range : Span) (touched : Option Span) → ((a : ℕ) → covers touched a ≡ false) → Meets range touched → ⊥
meets-none range touched none met = true≢false (sym met.2 ∙ none met.0)

-- none of three tests passes
none-of : (x y z : Bool) → (x || (y || z)) ≡ false → (y ≡ false) × (z ≡ false)
none-of false false false h = (refl, refl)
none-of false false true h = absurd (true≢false h)
none-of false true z h = absurd (true≢false h)
none-of true y z h = absurd (true≢false h)

-- a state that doesn't run does nothing that can be sought
rests-unhit : StaysHalted → (watch : Watch) (range : Span) (s : State) (setup : Setup)
    → is_running s.core.status ≡ false
    → HitsIn watch range s setup → ⊥
unfolding touches
rests-unhit law Run range s setup h hit = true≢false (sym hit.0 ∙ h)
rests-unhit law Read range s setup h hit =
    meets-none range (touched_of s setup).reads (λ a. (none-of _ _ _ ((law setup s h).1 a)).0) hit
rests-unhit law Write range s setup h hit =
    meets-none range (touched_of s setup).writes (λ a. (none-of _ _ _ ((law setup s h).1 a)).1) hit
rests-unhit law OfShadow range s setup h hit = hit.2 (sym (ap (λ (t : State). t.core.shadow hit.0) (law setup s h).0))
rests-unhit law Error range s setup h hit =
    let same : length (exec s setup).events ≡ length s.events = ap (λ (t : State). length t.events) (law setup s h).0 in
    let more = hit.1 in
    omega arith

-- nor does a later one
pub halted-unhit : StaysHalted → (sought : Sought) (start : State) (setup : Setup) (marks : List Alteration) (from : ℕ)
    → is_running (pre start setup marks from).core.status ≡ false → (k : ℕ) → from ≤ k → Hits sought start setup marks k
    → ⊥
unfolding Hits
halted-unhit law sought start setup marks from halted k l =
    rests-unhit law sought.watch sought.range (post start setup marks k) setup
    (halted-after law start setup marks from halted k l)

-- another step that isn't one
pub none-longer : (P : ℕ → Type 0) (from k : ℕ) → ((j : ℕ) → from ≤ j → j < k → P j → ⊥) → (P k → ⊥)
    → (j : ℕ) → from ≤ j → j < k + 1 → P j → ⊥
none-longer P from k none not j low high p = elim (cases_lt j k) [
  | inl before ↦ none j low before p
  | inr after ↦ (let here : j ≡ k = omega arith in not (subst P here p))
]

-- another step, by a test
pub last-more : (P : ℕ → Type 0) (from k : ℕ) (b : Bool) (last : Option ℕ) → from ≤ k → Decides b (P k)
    → IsLast P from k last
    → IsLast P from (k + 1) (cond b (Some k) last)
last-more P from k true last l d h = (l, omega arith, d.0 refl, λ j up low p. absurd (omega arith))
last-more P from k false None l d h = none-longer P from k h (not-told false (P k) refl d)
last-more P from k false (Some s) l d h =
    let low = h.1 in (
      h.0,
      omega arith,
      h.2,
      λ j up below p. none-longer P (s + 1) k (λ i over under q. h.3 i (omega arith) under q)
          (not-told false (P k) refl d)
          j (omega arith) below p,
    )

-- further steps, none of which is one
pub last-further : (P : ℕ → Type 0) (from k end : ℕ) (last : Option ℕ) → k ≤ end
    → ((j : ℕ) → k ≤ j → j < end → P j → ⊥) → IsLast P from k last → IsLast P from end last
last-further P from k end None l none h = λ j low high p. elim (cases_lt j k) [
  | inl before ↦ h j low before p
  | inr after ↦ none j after high p
]
last-further P from k end (Some s) l none h =
    let low = h.1 in (
      h.0,
      omega arith,
      h.2,
      λ j up high p. elim (cases_lt j k) [
        | inl before ↦ h.3 j up before p
        | inr after ↦ none j after high p
      ],
    )

-- a window from w on, up to a step from which on there is none: its last one is the last one of all
pub last-window : (P : ℕ → Type 0) (from w end before : ℕ) (found : Option ℕ) → is_some found ≡ true → end ≤ before
    → ((j : ℕ) → from ≤ j → end ≤ j → j < before → P j → ⊥) → IsLast P (max from w) end found
    → IsLast P from before found
last-window P from w end before None some l none h = absurd (true≢false (sym some))
last-window P from w end before (Some s) some l none h =
    let low = h.0 in
    let high = h.1 in
    last-further P from end before (Some s) l (λ j after high p. none j (omega arith) after high p)
    (omega arith, h.1, h.2, h.3)

-- and where it has none, there is none from w on
pub none-window : (P : ℕ → Type 0) (from w end before : ℕ) (found : Option ℕ) → is_some found ≡ false
    → ((j : ℕ) → from ≤ j → end ≤ j → j < before → P j → ⊥) → IsLast P (max from w) end found
    → (j : ℕ) → from ≤ j → w ≤ j → j < before → P j → ⊥
none-window P from w end before None empty none h j low up high p = elim (cases_lt j end) [
  | inl within ↦ h j (omega arith) within p
  | inr after ↦ none j low after high p
]
none-window P from w end before (Some s) empty none h j low up high p = true≢false empty

-- A step does the same on states that differ in bytes that it doesn't touch. No instruction is named here.
use Rattle.std.proofs.Common.{◌≡◌, ℕ, ◌+◌, ◌<◌, ◌||◌, ◌++◌, Bool, true, false, cond, refl, ap, ap₂, sym, ◌∙◌, ◌≤◌, List}
use Rattle.std.proofs.Common.{Option}
use Rattle.std.proofs.Common.{Some, None, subst, nat_lt, arith, length}
use Rattle.std.proofs.Math.Path.{fun_ext}
use Rattle.std.proofs.lemmas.Bool.Decides.{nat_tests}
use Rattle.shadow_memory.specs.Ranges.{above, offset, is_in, window, written, changed_in, little_word}
use Rattle.guest_machine.specs.Spans.{covers}
use Rattle.guest_machine.specs.State.{Core, State}
use Rattle.guest_machine.specs.Exec.{exec, Takes, counting, plan, outcome, outcome_at, uses_at, effect_at, touches}
use Rattle.guest_machine.specs.Exec.{touched_at}
use Rattle.guest_machine.specs.Exec.{has_touched}
use Rattle.guest_machine.specs.Exec.{called_here, action_by, action_at, action_terms}
use Rattle.guest_machine.specs.Exec.{is_heap_action, given_at, taken_from, written_to, counted, fetched, fetches}
use Rattle.guest_machine.specs.Exec.{fetch_span, seen_also, intake_of, intake_at, action_asks}
use Rattle.guest_machine.specs.Exec.{left_at, fetch_by, half_at, word_at, word_fault}
use Rattle.guest_elf.specs.Profiles.{is_half}
use Rattle.instructions.specs.declared.code.Code.TheVariants.{Word, Half}
use Rattle.std.specs.Prelude.{is_none}
use Rattle.guest_machine.specs.Laws.{DifferWithin, TouchesNone, InWord, KeepsWords}
use Rattle.run_values.specs.declared.span.Span.{Span}
use Rattle.guest_machine.specs.declared.setup.Setup.{Setup}
use Rattle.guest_elf.specs.declared.hook.Hook.{Hook}

-- two functions are equal outside these addresses
EqualOutside : (ℕ → Type 0) → (ℕ → ℕ) → (ℕ → ℕ) → Type 0
EqualOutside W f g = (a : ℕ) → (W a → ⊥) → f a ≡ g a

-- none of these addresses is covered
Avoids : (ℕ → Type 0) → Option Span → Type 0
Avoids W span = (a : ℕ) → W a → covers span a ≡ false

left-false : (a b : Bool) → (a || b) ≡ false → a ≡ false
left-false true b h = h
left-false false b h = refl

pub right-false : (a b : Bool) → (a || b) ≡ false → b ≡ false
right-false true b h = cc
right-false false b h = h

-- the address i above a range's start is in the range
in-above : (start n i : ℕ) → i < n → is_in start n (above start i) ≡ true
in-above start n i h = grind (arith, nat_tests)

-- bytes of a range that avoids the addresses are equal
window-outside : (W : ℕ → Type 0) (f g : ℕ → ℕ) (start n : ℕ) → EqualOutside W f g
    → ((a : ℕ) → W a → is_in start n a ≡ false) → window f start n ≡ window g start n
unfolding window EqualOutside
window-outside W f g start n e h = fun_ext (λ i. go i (nat_lt i n) refl)
  where
    go : (i : ℕ) (b : Bool) → nat_lt i n ≡ b → cond b (f (above start i)) 0 ≡ cond b (g (above start i)) 0
    go i false k = refl
    go i true k =
        e (above start i) (λ w. let within : i < n = grind (arith, nat_tests) in let t = in-above start n i within in
        let u = h (above start i) w in cc)

taken-outside : (W : ℕ → Type 0) (f g : ℕ → ℕ) (span : Option Span) → EqualOutside W f g → Avoids W span
    → taken_from f span ≡ taken_from g span
unfolding Avoids
taken-outside W f g None e h = refl
taken-outside W f g (Some span) e h = window-outside W f g span.start span.len e h

-- the same bytes written on both sides
written-outside : (W : ℕ → Type 0) (f g : ℕ → ℕ) (span : Option Span) (made : ℕ → ℕ) → EqualOutside W f g
    → EqualOutside W (written_to f span made) (written_to g span made)
unfolding written changed_in EqualOutside
written-outside W f g None made e a n = e a n
written-outside W f g (Some span) made e a n =
    ap (λ x. cond (is_in span.start span.len a) (made (offset span.start a)) x) (e a n)

in-more : (start n m a : ℕ) → n ≤ m → is_in start m a ≡ false → is_in start n a ≡ false
in-more start n m a less h = grind (arith, nat_tests)

-- the first half at pc is in what is fetched, whatever its length
half-outside : (W : ℕ → Type 0) (core : Core) (f g : ℕ → ℕ) (len : ℕ) → 2 ≤ len → EqualOutside W f g
    → ((a : ℕ) → W a → is_in core.pc len a ≡ false) → half_at core f ≡ half_at core g
half-outside W core f g len more e h =
    ap little_word (window-outside W f g core.pc 2 e (λ a w. in-more core.pc 2 len a more (h a w)))

-- what is fetched is the same: that looks only at the code at pc
fetch-outside : (W : ℕ → Type 0) (core : Core) (f g : ℕ → ℕ) → EqualOutside W f g
    → Avoids W (fetch_span core (fetched core f)) → fetched core f ≡ fetched core g
unfolding fetched Avoids
fetch-outside W core f g e h = go (fetches core) (is_half core.isa (half_at core f)) (is_none (word_fault core)) refl h
  where
    go : (may short whole : Bool) → is_half core.isa (half_at core f) ≡ short
        → ((a : ℕ) → W a
        → covers (fetch_span core (fetch_by may short whole (half_at core f) (word_at core f))) a ≡ false)
        → fetch_by may short whole (half_at core f) (word_at core f)
        ≡ fetch_by may (is_half core.isa (half_at core g)) whole (half_at core g) (word_at core g)
    go false short whole k avoid = refl
    go true true whole k avoid =
        let half = half-outside W core f g 2 (omega arith) e avoid in
        ap (λ n. Takes (Half n)) half
        ∙ ap (λ b. fetch_by true b whole (half_at core g) (word_at core g))
        (sym (ap (is_half core.isa) (sym half) ∙ k))
    go true false true k avoid =
        let half = half-outside W core f g 4 (omega arith) e avoid in
        let word = ap little_word (window-outside W f g core.pc 4 e avoid) in
        ap (λ n. Takes (Word n)) word
        ∙ ap (λ b. fetch_by true b true (half_at core g) (word_at core g))
        (sym (ap (is_half core.isa) (sym half) ∙ k))
    go true false false k avoid =
        let half = half-outside W core f g 2 (omega arith) e avoid in
        ap (λ b. fetch_by true b false (half_at core g) (word_at core g))
        (sym (ap (is_half core.isa) (sym half) ∙ k))

-- what is done is the same
action-outside : (W : ℕ → Type 0) (core : Core) (hooks : List (ℕ × Hook)) (f g : ℕ → ℕ) → EqualOutside W f g
    → Avoids W (fetch_span core (action_at core f hooks))
    → action_at core f hooks ≡ action_at core g hooks
unfolding Avoids
action-outside W core hooks f g e h = go (called_here core hooks) h
  where
    go : (function : Option Hook)
        → ((a : ℕ) → W a → covers (fetch_span core (action_by function (fetched core f))) a ≡ false)
        → action_by function (fetched core f) ≡ action_by function (fetched core g)
    go (Some function) k = refl
    go None k = fetch-outside W core f g e k

-- the step of a state with these byte values
module _ (W : ℕ → Type 0) (core : Core) (position output : ℕ) (setup : Setup) (f g : ℕ → ℕ) (e : EqualOutside W f g)
    (h : (a : ℕ) → W a → has_touched (touched_at core f position output setup) a ≡ false) where
  action-same : action_at core f setup.hooks ≡ action_at core g setup.hooks
  unfolding touched_at Avoids
  action-same = action-outside W core setup.hooks f g e (λ a w. left-false _ _ (h a w))

  uses-same : uses_at core f position output setup ≡ uses_at core g position output setup
  unfolding uses_at
  uses-same = ap (λ d. plan core (action_terms core d position output setup) d) action-same

  reads-avoid : Avoids W (uses_at core f position output setup).reads
  unfolding touched_at Avoids
  reads-avoid a w = left-false _ _ (right-false (covers (fetch_span core (action_at core f setup.hooks)) a) _ (h a w))

  outcome-same : outcome_at core f position output setup ≡ outcome_at core g position output setup
  unfolding outcome_at uses_at
  outcome-same =
      ap (λ t. outcome core (action_terms core (action_at core f setup.hooks) position output setup)
      (action_at core f setup.hooks)
      (given_at position (action_terms core (action_at core f setup.hooks) position output setup).intake.count setup) t)
      (taken-outside W f g _ e reads-avoid)
      ∙ ap (λ d. let terms = action_terms core d position output setup in
      outcome core terms d (given_at position terms.intake.count setup) (taken_from g (plan core terms d).reads))
      action-same

  effect-same : effect_at core f position output setup ≡ effect_at core g position output setup
  unfolding effect_at
  effect-same = ap (counting core) outcome-same

  touched-same : touched_at core f position output setup ≡ touched_at core g position output setup
  unfolding touched_at
  touched-same =
      ap₂ (λ d u. record { fetch = fetch_span core d; reads = u.reads; writes = u.writes }) action-same uses-same

module _ (W : ℕ → Type 0) (setup : Setup) (s : State) (g : ℕ
    → ℕ) (e : EqualOutside W s.bytes g) (h : TouchesNone W s setup) where
  -- the state with the other byte values
  other : State
  other = record s { bytes = g }

  law : (touches s setup ≡ touches other setup) × DifferWithin W (exec s setup) (exec other setup)
  unfolding exec intake_at touches other EqualOutside
  law =
      let d = action-same W s.core s.position (length s.output) setup s.bytes g e h in
      let u = uses-same W s.core s.position (length s.output) setup s.bytes g e h in
      let x = effect-same W s.core s.position (length s.output) setup s.bytes g e h in (
        ap has_touched (touched-same W s.core s.position (length s.output) setup s.bytes g e h),
        record {
          bytes = λ a n. written-outside W s.bytes g (uses_at s.core s.bytes s.position (length s.output) setup).writes
              (effect_at s.core s.bytes s.position (length s.output) setup).made e a n
              ∙ ap₂ (λ v y. written_to g v.writes y.made a) u x;
          core = ap (λ y. y.core) x;
          position = ap (λ d. s.position + (intake_of (action_asks s.core d) (left_at s.position setup)).count) d;
          end_seen =
              ap (λ d. seen_also s.end_seen (intake_of (action_asks s.core d) (left_at s.position setup)).ends) d;
          output = ap (λ y. s.output ++ y.output) x;
          heap_calls = ap (λ d. counted s.heap_calls (is_heap_action s.core d)) d;
          events = ap (λ y. s.events ++ y.raised) x;
        },
      )

-- two states that differ only at addresses that the step doesn't touch
pub keeps-bytes : (W : ℕ → Type 0) (setup : Setup) (s t : State) → DifferWithin W s t → TouchesNone W s setup
    → (touches s setup ≡ touches t setup) × DifferWithin W (exec s setup) (exec t setup)
unfolding EqualOutside other
keeps-bytes W setup s t d h =
    let same : record s { bytes = t.bytes } ≡ t =
    λ i. record {
      bytes = t.bytes;
      core = d.core i;
      position = d.position i;
      end_seen = d.end_seen i;
      output = d.output i;
      heap_calls = d.heap_calls i;
      events = d.events i;
    } in
    let P : State → Type 0 = λ x. (touches s setup ≡ touches x setup)
    × DifferWithin W (exec s setup) (exec x setup) in
    subst P same (law W setup s t.bytes d.bytes h)

pub keeps-words : KeepsWords
keeps-words setup word s t d h = keeps-bytes (InWord word) setup s t d h

-- One run with bytes of the input undefined stands for the runs of all inputs that differ in these bytes.
use Rattle.std.proofs.Common.{◌≡◌, ℕ, zero, suc, ◌+◌, ◌-◌, ◌^◌, ◌<◌, ◌≤◌, Bool, true, false, cond, refl, sym, ap, ◌∙◌}
use Rattle.std.proofs.Common.{subst, inl, inr, arith, List, length, slice_index, All}
use Rattle.std.specs.Int.{bit_at}
use Rattle.std.proofs.lemmas.Bool.{cases_eq, false≢true}
use Rattle.std.proofs.lemmas.Nat.Bits.{bit_at_ones}
use Rattle.shadow_memory.specs.Shadows.{Shadow}
use Rattle.guest_heap.specs.Blocks.{Blocks}
use Rattle.guest_heap.specs.Steps.{AreInRegion}
use Rattle.shadow_memory.specs.Ranges.{above}
use Rattle.std.proofs.Common.{Some}
use Rattle.guest_machine.specs.State.{Core, State}
use Rattle.guest_machine.specs.Exec.{exec, intake_at, touched_of, touched_at}
use Rattle.guest_machine.specs.declared.setup.Setup.{Setup}
use Rattle.clean_reports.specs.Uses.{NoUse}
use Rattle.any_runs.specs.Sharper.{SharperShadow, HasStackPointer}
use Rattle.any_runs.specs.Stands.{Stands, Changes, Keeps, before, at_step, ControlsStand, RegistersStand}
use Rattle.any_runs.specs.Inputs.{faded, is_given, is_read, blurred, blurred_before, blurred_at, IsBlurredFit}
use Rattle.any_runs.specs.Inputs.{InputsStand}
use Rattle.clean_reports.specs.Agreement.{BytesAgree}
use Rattle.clean_reports.specs.Heap.{BlocksAreOpen}
use Rattle.clean_reports.specs.Disturbed.{HasBytes}
use Rattle.any_runs.proofs.Tests.{left-none}
use Rattle.any_runs.proofs.Standing.{step-stands}
use Rattle.any_runs.proofs.Touched.{touched-stands}
use Rattle.any_runs.proofs.Inputs.{differ-after, touched-alike, small-after}

all-set : (i : ℕ) → i < 8 → bit_at 255 i ≡ 0 → ⊥
all-set i h e = let one : bit_at (2 ^ 8 - 1) i ≡ 1 = bit_at_ones 8 i h in cc

-- a byte that is made undefined stands for any
pub fade-sharper : (b : Bool) (x y : Shadow) → SharperShadow x y → SharperShadow (cond b (faded x) x) y
unfolding faded
fade-sharper false x y s = s
fade-sharper true x y s = go x.accessible refl
  where
    go : (may : Bool) → x.accessible ≡ may
        → SharperShadow (cond may (record { accessible = true; undef = 255 }) x) y
    go true e = record {
      accessible = sym e ∙ s.accessible;
      undef = λ i h clear. absurd (all-set i h clear);
      one = omega arith;
      other = s.other;
    }
    go false e = s

pub fade-bytes : (b : Bool) (x : Shadow) (v w z : ℕ) → (b ≡ false → w ≡ z) → BytesAgree x v w
    → BytesAgree (cond b (faded x) x) v z
unfolding faded
fade-bytes false x v w z same agree = λ opened i h clear. agree opened i h clear ∙ ap (λ n. bit_at n i) (same refl)
fade-bytes true x v w z same agree = go x.accessible refl
  where
    go : (may : Bool) → x.accessible ≡ may
        → BytesAgree (cond may (record { accessible = true; undef = 255 }) x) v z
    go true e opened i h clear = absurd (all-set i h clear)
    go false e opened i h clear = absurd (false≢true (sym e ∙ opened))

-- where the other state's blocks may be accessed, the one's may
pub open-from : (s t : State) → Stands s t → BlocksAreOpen t.core → BlocksAreOpen s.core
open-from s t d opened = record {
  region = subst (λ (b : Blocks). AreInRegion b) (sym d.blocks) opened.region;
  opened = λ p b live i h.
      (d.memory.shadow (above p i)).accessible
      ∙ opened.opened p b (subst (λ (x : Blocks). x.live p ≡ Some b) d.blocks live) i h;
}

fewer : (s : State) (setup : Setup) → NoUse (exec s setup).events → NoUse s.events
unfolding exec
fewer s setup none = left-none s.events _ none

module _ (any : ℕ → Bool) (setup : Setup) (input : List ℕ) (count : length setup.input ≡ length input)
    (outside : (i : ℕ) → any i ≡ false → slice_index setup.input i ≡ slice_index input i)
    (bytes : HasBytes setup) where
  abbrev alike : Setup
  alike = record setup { input = input }

  -- both steps are given as many bytes, at the same addresses
  read-same : (s t : State) → Stands s t → Stands (exec s setup) (exec t setup)
      → touched_of s setup ≡ touched_of t setup → (a : ℕ) → is_read any s setup a ≡ is_read any t setup a
  unfolding exec touched_at
  read-same s t d e touched a =
      let p = (intake_at s.core s.bytes s.position setup).count in
      let q = (intake_at t.core t.bytes t.position setup).count in
      let sum : s.position + p ≡ t.position + q = e.position in
      let start : s.position ≡ t.position = d.position in
      let same : p ≡ q = omega (arith, sum, start) in
      λ i. is_given any (start i) (same i) ((touched i).writes) a

  module _ (fits : HasBytes alike) where
    -- the law of a step
    step-blurred : (s t : State) → Stands s t → BlocksAreOpen s.core → HasStackPointer s
        → HasStackPointer (exec s setup) → NoUse (exec s setup).events
        → Stands (blurred any s setup) (exec t alike) × (touched_of s setup ≡ touched_of t alike)
    unfolding blurred
    step-blurred s t d opened pointer left none =
        let e = step-stands setup bytes s t d opened pointer left none in
        let touched = touched-stands setup bytes s t d opened none in
        let x = differ-after any setup input count outside t in
        let test = read-same s t d e touched in (
          record {
            memory = record {
              shadow = λ a. subst (λ (k : Core). SharperShadow (cond (is_read any s setup a)
                  (faded ((exec s setup).core.shadow a)) ((exec s setup).core.shadow a)) (k.shadow a)) x.core
                  (fade-sharper (is_read any s setup a) _ _ (e.memory.shadow a));
              each = λ a. fade-bytes (is_read any s setup a) _ _ _ _ (λ no. x.bytes a (sym (test a) ∙ no))
                  (e.memory.each a);
              one = e.memory.one;
              other = small-after any setup input count outside t d.memory.other fits e.memory.other;
            };
            registers = subst (λ (k : Core). RegistersStand (exec s setup).core.registers k.registers) x.core
                e.registers;
            controls = subst (λ (k : Core). ControlsStand (exec s setup).core.controls k.controls) x.core e.controls;
            pc = e.pc ∙ ap (λ (k : Core). k.pc) x.core;
            status = e.status ∙ ap (λ (k : Core). k.status) x.core;
            frames = e.frames ∙ ap (λ (k : Core). k.frames) x.core;
            blocks = e.blocks ∙ ap (λ (k : Core). k.blocks) x.core;
            isa = e.isa ∙ ap (λ (k : Core). k.isa) x.core;
            stack = e.stack ∙ ap (λ (k : Core). k.stack) x.core;
            limits = e.limits ∙ ap (λ (k : Core). k.limits) x.core;
            reserved = e.reserved ∙ ap (λ (k : Core). k.reserved) x.core;
            steps = e.steps ∙ ap (λ (k : Core). k.steps) x.core;
            position = e.position ∙ x.position;
            end_seen = e.end_seen ∙ x.end_seen;
            output = e.output ∙ x.output;
            heap_calls = e.heap_calls ∙ x.heap_calls;
            events = e.events ∙ x.events;
          },
          touched ∙ touched-alike any setup input count outside t,
        )

    module _ (start begun : State) (change other : Changes) (first : Stands start begun) where
      abbrev KeepsTo : ℕ → Type 0
      KeepsTo n = (k : ℕ) → k ≤ n
          → Keeps change other (blurred_before any start setup change k) (before begun alike other k) k

      blurred-use : (s : State) → NoUse (blurred any s setup).events → NoUse (exec s setup).events
      unfolding blurred
      blurred-use s none = none

      abbrev OpenTo : ℕ → Type 0
      OpenTo n = (k : ℕ) → k < n → BlocksAreOpen (at_step begun alike other k).core

      pub stand-before : (n : ℕ) → KeepsTo n → IsBlurredFit any start setup change n → OpenTo n
          → Stands (blurred_before any start setup change n) (before begun alike other n)
      unfolding before blurred_before
      stand-before zero keeps fit opened = first
      stand-before (suc k) keeps fit opened =
          let s = blurred_at any start setup change k in
          let none = blurred-use s fit.uses in
          let earlier = subst NoUse (keeps k (omega arith)).events (fewer s setup none) in
          let here = stand-before k (λ j h. keeps j (omega arith)) (record {
            pointer = λ j h. fit.pointer j (omega arith);
            left = λ j h. fit.left j (omega arith);
            uses = earlier;
          }) (λ j h. opened j (omega arith)) in
          let stands = (keeps k (omega arith)).stands here in
          (step-blurred s (at_step begun alike other k) stands
          (open-from s (at_step begun alike other k) stands (opened k (omega arith)))
          (fit.pointer k (omega arith)) (fit.left k (omega arith)) none).0

      none-earlier : (n k : ℕ) → k ≤ n → KeepsTo n → NoUse (blurred_before any start setup change n).events
          → NoUse (blurred_before any start setup change k).events
      unfolding blurred_before
      none-earlier zero zero h keeps none = none
      none-earlier zero (suc k) h keeps none = absurd (omega (arith, h))
      none-earlier (suc n) k h keeps none =
          elim (cases_eq k (suc n)) [
            | inl same ↦ subst (λ j. NoUse (blurred_before any start setup change j).events) (sym same) none
            | inr less ↦
                none-earlier n k (omega arith) (λ j l. keeps j (omega arith))
                (subst NoUse (keeps n (omega arith)).events (fewer (blurred_at any start setup change n) setup
                (blurred-use (blurred_at any start setup change n) none)))
          ]

      pub law : (n : ℕ) → KeepsTo n → IsBlurredFit any start setup change n → OpenTo n
          → Stands (blurred_at any start setup change n) (at_step begun alike other n)
          × ((k : ℕ) → k < n
          → touched_of (blurred_at any start setup change k) setup ≡ touched_of (at_step begun alike other k) alike)
      unfolding blurred_before
      law n keeps fit opened = (
        (keeps n (omega arith)).stands (stand-before n keeps fit opened),
        λ k h.
            let here : IsBlurredFit any start setup change k = record {
              pointer = λ j l. fit.pointer j (omega (arith, l, h));
              left = λ j l. fit.left j (omega (arith, l, h));
              uses = none-earlier n k (omega (arith, h)) keeps fit.uses;
            } in
            let s = blurred_at any start setup change k in
            let stands = (keeps k (omega (arith, h))).stands (stand-before k (λ j l. keeps j (omega (arith, l, h))) here
            (λ j l. opened j (omega (arith, l, h)))) in
            (step-blurred s (at_step begun alike other k) stands
            (open-from s (at_step begun alike other k) stands (opened k h)) (fit.pointer k h) (fit.left k h)
            (blurred-use s (none-earlier n (suc k) h keeps fit.uses))).1,
      )

pub inputs-stand : (input another : List ℕ) → All (λ byte. byte < 2 ^ 8) input → All (λ byte. byte < 2 ^ 8) another
    → InputsStand input another
inputs-stand input another small smaller setup other any start begun change changed n is also d first keeps fit opened =
    let alike : Setup = record setup { input = other.input } in
    let same : alike ≡ other =
    λ i. record { input = other.input; redzone = d.redzone i; volume = d.volume i; hooks = d.hooks i } in
    let bytes : HasBytes setup = subst (λ xs. All (λ byte. byte < 2 ^ 8) xs) (sym is) small in
    let fits : HasBytes alike = subst (λ xs. All (λ byte. byte < 2 ^ 8) xs) (sym also) smaller in
    let P : Setup → Type 0 = λ o.
    ((k : ℕ) → k ≤ n → Keeps change changed (blurred_before any start setup change k) (before begun o changed k) k)
    → ((k : ℕ) → k < n → BlocksAreOpen (at_step begun o changed k).core)
    → Stands (blurred_at any start setup change n) (at_step begun o changed n)
    × ((k : ℕ) → k < n
    → touched_of (blurred_at any start setup change k) setup ≡ touched_of (at_step begun o changed k) o) in
    subst P same
    (λ keeps opened. law any setup other.input d.count d.outside bytes fits start begun change changed first n keeps fit
    opened) keeps opened

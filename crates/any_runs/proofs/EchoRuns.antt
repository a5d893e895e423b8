-- One run that may write bytes that may be any stands for the runs of other inputs.
use Rattle.std.proofs.Common.{◌≡◌, ℕ, zero, suc, ◌+◌, ◌^◌, ◌<◌, ◌≤◌, Bool, false, cond, refl, sym, ap, ◌∙◌}
use Rattle.std.proofs.Common.{subst, inl, inr, arith, List, [], length, slice_index, Some, All}
use Rattle.std.proofs.lemmas.Bool.{cases_eq}
use Rattle.shadow_memory.specs.Ranges.{above}
use Rattle.guest_heap.specs.Blocks.{Blocks}
use Rattle.guest_heap.specs.Steps.{AreInRegion}
use Rattle.guest_machine.specs.State.{Core, State}
use Rattle.guest_machine.specs.Exec.{exec, intake_at, touched_of, touched_at}
use Rattle.guest_machine.specs.Run.{pre, post, after_marks}
use Rattle.guest_machine.specs.declared.setup.Setup.{Setup}
use Rattle.clean_reports.specs.Disturbed.{HasBytes}
use Rattle.clean_reports.specs.Heap.{BlocksAreOpen}
use Rattle.clean_reports.specs.Uses.{NoUse}
use Rattle.clean_reports.proofs.HeapRuns.{heap-stays-open, blocks-open}
use Rattle.clean_reports.proofs.Noise.{disturbed-runs-exist}
use Rattle.any_runs.specs.Sharper.{SharperShadow, HasStackPointer}
use Rattle.any_runs.specs.Stands.{Stands, ControlsStand, RegistersStand}
use Rattle.any_runs.specs.Stands.{Changes, at_step, before}
use Rattle.any_runs.specs.Inputs.{faded, is_given, is_read, blurred, blurred_at, blurred_before, unchanged}
use Rattle.any_runs.specs.Echoes.{StandsBut, WritesOpen, kept}
use Rattle.any_runs.specs.EchoRuns.{EchoRunsStand, IsEchoFit, KeepsBut, AnyInputBut}
use Rattle.any_runs.proofs.Echo.{left-kept}
use Rattle.any_runs.proofs.Echoing.{echo-step}
use Rattle.any_runs.proofs.Inputs.{differ-after, touched-alike, small-after}
use Rattle.any_runs.proofs.Blurring.{fade-sharper, fade-bytes}
use Rattle.any_runs.proofs.AnyInput.{plain, start-stands}

-- where the other state's blocks may be accessed, the one's may
open-from : (s t : State) → StandsBut s t → BlocksAreOpen t.core → BlocksAreOpen s.core
open-from s t d opened = record {
  region = subst (λ (b : Blocks). AreInRegion b) (sym d.blocks) opened.region;
  opened = λ p b live i h.
      (d.memory.shadow (above p i)).accessible
      ∙ opened.opened p b (subst (λ (x : Blocks). x.live p ≡ Some b) d.blocks live) i h;
}

fewer : (s : State) (setup : Setup) → NoUse (kept (exec s setup).events) → NoUse (kept s.events)
unfolding exec
fewer s setup none = left-kept s.events _ none

module _ (any : ℕ → Bool) (setup : Setup) (input : List ℕ) (count : length setup.input ≡ length input)
    (outside : (i : ℕ) → any i ≡ false → slice_index setup.input i ≡ slice_index input i)
    (bytes : HasBytes setup) where
  abbrev alike : Setup
  alike = record setup { input = input }

  read-same : (s t : State) → StandsBut s t → StandsBut (exec s setup) (exec t setup)
      → touched_of s setup ≡ touched_of t setup → (a : ℕ) → is_read any s setup a ≡ is_read any t setup a
  unfolding exec touched_at
  read-same s t d e touched a =
      let p = (intake_at s.core s.bytes s.position setup).count in
      let q = (intake_at t.core t.bytes t.position setup).count in
      let sum : s.position + p ≡ t.position + q = e.position in
      let start : s.position ≡ t.position = d.position in
      let same : p ≡ q = omega (arith, sum, start) in
      λ i. is_given any (start i) (same i) ((touched i).writes) a

  module _ (fits : HasBytes alike) where
    step-blurred : (s t : State) → StandsBut s t → BlocksAreOpen s.core → HasStackPointer s
        → HasStackPointer (exec s setup) → WritesOpen s setup → NoUse (kept (exec s setup).events)
        → StandsBut (blurred any s setup) (exec t alike) × (touched_of s setup ≡ touched_of t alike)
    unfolding blurred
    step-blurred s t d opened pointer left writes none =
        let both = echo-step setup s t d bytes opened pointer left writes none in
        let e = both.0 in
        let x = differ-after any setup input count outside t in
        let test = read-same s t d e both.1 in (
          record {
            memory = record {
              shadow = λ a. subst (λ (k : Core). SharperShadow (cond (is_read any s setup a)
                  (faded ((exec s setup).core.shadow a)) ((exec s setup).core.shadow a)) (k.shadow a)) x.core
                  (fade-sharper (is_read any s setup a) _ _ (e.memory.shadow a));
              each = λ a. fade-bytes (is_read any s setup a) _ _ _ _ (λ no. x.bytes a (sym (test a) ∙ no))
                  (e.memory.each a);
              one = e.memory.one;
              other = small-after any setup input count outside t d.memory.other fits e.memory.other;
            };
            registers = subst (λ (k : Core). RegistersStand (exec s setup).core.registers k.registers) x.core
                e.registers;
            controls = subst (λ (k : Core). ControlsStand (exec s setup).core.controls k.controls) x.core e.controls;
            pc = e.pc ∙ ap (λ (k : Core). k.pc) x.core;
            status = e.status ∙ ap (λ (k : Core). k.status) x.core;
            frames = e.frames ∙ ap (λ (k : Core). k.frames) x.core;
            blocks = e.blocks ∙ ap (λ (k : Core). k.blocks) x.core;
            isa = e.isa ∙ ap (λ (k : Core). k.isa) x.core;
            stack = e.stack ∙ ap (λ (k : Core). k.stack) x.core;
            limits = e.limits ∙ ap (λ (k : Core). k.limits) x.core;
            reserved = e.reserved ∙ ap (λ (k : Core). k.reserved) x.core;
            steps = e.steps ∙ ap (λ (k : Core). k.steps) x.core;
            position = e.position ∙ x.position;
            end_seen = e.end_seen ∙ x.end_seen;
            output = e.output ∙ ap (λ (xs : List ℕ). length xs) x.output;
            heap_calls = e.heap_calls ∙ x.heap_calls;
            events = e.events ∙ ap kept x.events;
          },
          both.1 ∙ touched-alike any setup input count outside t,
        )

    blurred-use : (s : State) → NoUse (kept (blurred any s setup).events) → NoUse (kept (exec s setup).events)
    unfolding blurred
    blurred-use s none = none

    module _ (start begun : State) (change other : Changes) (first : StandsBut start begun) where
      abbrev one : ℕ → State
      one k = blurred_before any start setup change k

      abbrev pub KeepsTo : ℕ → Type 0
      KeepsTo n = (k : ℕ) → k ≤ n → KeepsBut change other (one k) (before begun alike other k) k

      abbrev pub OpenTo : ℕ → Type 0
      OpenTo n = (k : ℕ) → k < n → BlocksAreOpen (at_step begun alike other k).core

      none-earlier : (n k : ℕ) → k ≤ n → KeepsTo n → NoUse (kept (one n).events) → NoUse (kept (one k).events)
      unfolding blurred_before
      none-earlier zero zero h keeps none = none
      none-earlier zero (suc k) h keeps none = absurd (omega (arith, h))
      none-earlier (suc n) k h keeps none =
          elim (cases_eq k (suc n)) [
            | inl same ↦ subst (λ j. NoUse (kept (one j).events)) (sym same) none
            | inr less ↦
                none-earlier n k (omega arith) (λ j l. keeps j (omega arith))
                (subst (λ es. NoUse (kept es)) (keeps n (omega arith)).events
                (fewer (blurred_at any start setup change n) setup
                (blurred-use (blurred_at any start setup change n) none)))
          ]

      -- a run that is fit up to step n is so up to an earlier one
      fit-earlier : (n k : ℕ) → k ≤ n → KeepsTo n → IsEchoFit any start setup change n
          → IsEchoFit any start setup change k
      fit-earlier n k h keeps fit = record {
        pointer = λ j l. fit.pointer j (omega (arith, l, h));
        left = λ j l. fit.left j (omega (arith, l, h));
        writes = λ j l. fit.writes j (omega (arith, l, h));
        uses = none-earlier n k h keeps fit.uses;
      }

      step-at : (k : ℕ) → StandsBut (blurred_at any start setup change k) (at_step begun alike other k)
          → IsEchoFit any start setup change (suc k) → OpenTo (suc k)
          → StandsBut (one (suc k)) (before begun alike other (suc k))
          × (touched_of (blurred_at any start setup change k) setup ≡ touched_of (at_step begun alike other k) alike)
      unfolding before blurred_before
      step-at k here fit opened =
          let s = blurred_at any start setup change k in
          let t = at_step begun alike other k in
          step-blurred s t here (open-from s t here (opened k (omega arith)))
          (fit.pointer k (omega arith)) (fit.left k (omega arith)) (fit.writes k (omega arith))
          (blurred-use s fit.uses)

      stand-before : (n : ℕ) → KeepsTo n → IsEchoFit any start setup change n → OpenTo n
          → StandsBut (one n) (before begun alike other n)
      unfolding before blurred_before
      stand-before zero keeps fit opened = first
      stand-before (suc k) keeps fit opened =
          let before-it = stand-before k (λ j h. keeps j (omega arith)) (fit-earlier (suc k) k (omega arith) keeps fit)
          (λ j h. opened j (omega arith)) in
          (step-at k ((keeps k (omega arith)).stands before-it) fit opened).0

      stand-at : (n : ℕ) → KeepsTo n → IsEchoFit any start setup change n → OpenTo n
          → StandsBut (blurred_at any start setup change n) (at_step begun alike other n)
      stand-at n keeps fit opened = (keeps n (omega arith)).stands (stand-before n keeps fit opened)

      pub law : (n : ℕ) → KeepsTo n → IsEchoFit any start setup change n → OpenTo n
          → ((k : ℕ) → k ≤ n → StandsBut (blurred_at any start setup change k) (at_step begun alike other k))
          × ((k : ℕ) → k < n
          → touched_of (blurred_at any start setup change k) setup ≡ touched_of (at_step begun alike other k) alike)
      law n keeps fit opened = (
        λ k h. stand-at k (λ j l. keeps j (omega (arith, l, h))) (fit-earlier n k h keeps fit)
            (λ j l. opened j (omega (arith, l, h))),
        λ k h.
            (step-at k (stand-at k (λ j l. keeps j (omega (arith, l, h))) (fit-earlier n k (omega (arith, h)) keeps fit)
            (λ j l. opened j (omega (arith, l, h)))) (fit-earlier n (suc k) h keeps fit)
            (λ j l. opened j (omega (arith, l, h)))).1,
      )

pub as-but : (s t : State) → Stands s t → StandsBut s t
as-but s t d = record {
  memory = d.memory;
  registers = d.registers;
  controls = d.controls;
  pc = d.pc;
  status = d.status;
  frames = d.frames;
  blocks = d.blocks;
  isa = d.isa;
  stack = d.stack;
  limits = d.limits;
  reserved = d.reserved;
  steps = d.steps;
  position = d.position;
  end_seen = d.end_seen;
  output = ap (λ (xs : List ℕ). length xs) d.output;
  heap_calls = d.heap_calls;
  events = ap kept d.events;
}

pub echo-runs-stand : (input another : List ℕ) → All (λ byte. byte < 2 ^ 8) input → All (λ byte. byte < 2 ^ 8) another
    → EchoRunsStand input another
echo-runs-stand input another small smaller setup other any start begun change changed n is also d first keeps fit
    opened =
    let alike : Setup = record setup { input = other.input } in
    let same : alike ≡ other =
    λ i. record { input = other.input; redzone = d.redzone i; volume = d.volume i; hooks = d.hooks i } in
    let bytes : HasBytes setup = subst (λ xs. All (λ byte. byte < 2 ^ 8) xs) (sym is) small in
    let fits : HasBytes alike = subst (λ xs. All (λ byte. byte < 2 ^ 8) xs) (sym also) smaller in
    let P : Setup → Type 0 = λ o.
    ((k : ℕ) → k ≤ n → KeepsBut change changed (blurred_before any start setup change k) (before begun o changed k) k)
    → ((k : ℕ) → k < n → BlocksAreOpen (at_step begun o changed k).core)
    → ((k : ℕ) → k ≤ n → StandsBut (blurred_at any start setup change k) (at_step begun o changed k))
    × ((k : ℕ) → k < n
    → touched_of (blurred_at any start setup change k) setup ≡ touched_of (at_step begun o changed k) o) in
    subst P same
    (λ keeps opened. law any setup other.input d.count d.outside bytes fits start begun change changed first n keeps fit
    opened) keeps opened

pub any-input-but : (input another : List ℕ) → ((k : ℕ) → slice_index input k < 2 ^ 8)
    → All (λ byte. byte < 2 ^ 8) input → All (λ byte. byte < 2 ^ 8) another → AnyInputBut input another
unfolding post after_marks pre
any-input-but input another slice small smaller image start setup other any n begins bytes is also d fit =
    let first = ((disturbed-runs-exist input slice).itself image start setup [] 0 begins bytes is tt tt
    (subst NoUse (sym begins.events) tt)).first in
    let open-at : (k : ℕ) → k < n → BlocksAreOpen (at_step start other unchanged k).core =
    λ k h. subst (λ (s : State). BlocksAreOpen s.core) (sym (plain start other k))
    (blocks-open _ (heap-stays-open image start other [] begins tt k)) in
    let both = echo-runs-stand input another small smaller setup other any start start unchanged unchanged n is also d
    (as-but start start (start-stands image start begins first)) (λ k h. record { stands = λ s. s; events = refl }) fit
    open-at in
    record {
      stands = subst (λ (t : State). StandsBut (blurred_before any start setup unchanged n) t) (plain start other n)
          (both.0 n (omega arith));
      touched = λ k h. both.1 k h ∙ ap (λ (t : State). touched_of t other) (plain start other k);
    }

-- There are disturbed runs.
use Rattle.std.proofs.Common.{◌≡◌, ℕ, zero, suc, ◌^◌, ◌<◌, ◌≤◌, Bool, true, false, cond, refl, sym, ap, subst}
use Rattle.std.proofs.Common.{arith, inl, inr, List, replicate, slice_index, slice_index_or}
use Rattle.std.specs.Int.{bit_at}
use Rattle.std.specs.Prelude.{is_some}
use Rattle.std.proofs.lemmas.Bool.{cases_lt, cases_eq}
use Rattle.definedness.specs.declared.Bits.{Bits}
use Rattle.shadow_memory.specs.Shadows.{made_so, shadow_of}
use Rattle.shadow_memory.specs.declared.cells.RangeKind.TheVariants.{NoAccess, Defined}
use Rattle.guest_elf.specs.Images.{loaded_at, profile_of}
use Rattle.memory_map.specs.Regions.{first_stack_bytes}
use Rattle.guest_elf.specs.declared.image.Image.{Image}
use Rattle.run_values.specs.declared.alteration.Alteration.{Alteration}
use Rattle.guest_machine.specs.State.{Core, State}
use Rattle.guest_machine.specs.Exec.{exec}
use Rattle.guest_machine.specs.Registers.{known}
use Rattle.guest_machine.specs.Run.{after_marks, image_shadows, post, pre, stack_start, start_state}
use Rattle.guest_machine.specs.declared.setup.Setup.{Setup}
use Rattle.clean_reports.specs.Agreement.{AreBytes, ControlsAgree, MemoriesAgree, RegistersAgree, StatesAgree}
use Rattle.clean_reports.specs.Agreement.{ValuesAgree}
use Rattle.clean_reports.specs.Disturbed.{IsDisturbed, IsStartOf, noisy, noisy_run}
use Rattle.clean_reports.specs.Heap.{BlocksAreOpen}
use Rattle.clean_reports.specs.Laws.{DisturbedRunsExist}
use Rattle.clean_reports.specs.Marks.{DefineNothing, HideNothing}
use Rattle.clean_reports.specs.Uses.{NoUse}
use Rattle.clean_reports.proofs.Clean.{law-of}
use Rattle.clean_reports.proofs.HeapRuns.{blocks-open, heap-stays-open}
use Rattle.clean_reports.proofs.Memory.{changed-bits, kind-bits}
use Rattle.clean_reports.proofs.Registers.{set-agrees}
use Rattle.clean_reports.proofs.StartRegions.{lie}
use Rattle.clean_reports.proofs.Runs.{after-agree, begun, fewer, loose-along, marks-events, runs-agree, states-sym}
use Rattle.clean_reports.proofs.Runs.{states-trans}
use Rattle.clean_reports.proofs.Steps.{StepAgrees}
use Rattle.clean_reports.proofs.Values.{known-agrees}

-- a state that agrees with another agrees with itself --

pub first-itself : (s t : State) → StatesAgree s t → StatesAgree s s
first-itself s t d = states-trans s t s d (states-sym s t d)

pub second-itself : (s t : State) → StatesAgree s t → StatesAgree t t
second-itself s t d = states-trans t s t (states-sym s t d) d

-- a start of bytes agrees with itself --

copies-same : (n r : ℕ) (x : Bits) → slice_index_or (replicate n x) r x ≡ x
copies-same zero r x = refl
copies-same (suc n) zero x = refl
copies-same (suc n) (suc r) x = copies-same n r x

zeros-agree : RegistersAgree (replicate 32 (known 0)) (replicate 32 (known 0))
zeros-agree = record {
  count = refl;
  each = λ r. subst (λ x. ValuesAgree x x) (sym (copies-same 32 r (known 0))) (known-agrees 0 (omega arith));
}

shadows-small : (image : Image)
    → AreBytes (λ a. (made_so (image_shadows image) (stack_start image) first_stack_bytes Defined a).undef)
unfolding made_so
shadows-small image =
    changed-bits (image_shadows image) (stack_start image) first_stack_bytes (λ i s. shadow_of Defined)
    (λ a. go (is_some (loaded_at image a)))
    (λ i a. kind-bits Defined)
  where
    go : (b : Bool) → (cond b (shadow_of Defined) (shadow_of NoAccess)).undef < 2 ^ 8
    go true = kind-bits Defined
    go false = kind-bits NoAccess

core-agrees : (image : Image) (core : Core) (bytes : ℕ → ℕ) → core ≡ (start_state image).core → AreBytes bytes
    → MemoriesAgree core.shadow bytes bytes
    × (RegistersAgree core.registers core.registers × ControlsAgree core.controls core.controls)
unfolding start_state
core-agrees image core bytes is small = (
  record {
    each = λ a can i h clear. refl;
    bits = subst (λ (c : Core). AreBytes (λ a. (c.shadow a).undef)) (sym is) (shadows-small image);
    one = small;
    other = small;
  },
  (
    subst (λ (c : Core). RegistersAgree c.registers c.registers) (sym is)
        (set-agrees (replicate 32 (known 0)) (replicate 32 (known 0)) zeros-agree 2 (known (stack_start image))
        (known (stack_start image))
        (known-agrees (stack_start image) (let end = (lie (profile_of image).regions).end in omega arith))),
    subst (λ (c : Core). ControlsAgree c.controls c.controls) (sym is) (λ number. known-agrees 0 (omega arith)),
  ),
)

start-itself : (image : Image) (start : State) → IsStartOf image start → AreBytes start.bytes → StatesAgree start start
start-itself image start begins small =
    let parts = core-agrees image start.core start.bytes begins.core small in
    record {
      memory = parts.0;
      registers = parts.1.0;
      shadow = refl;
      pc = refl;
      status = refl;
      frames = refl;
      blocks = refl;
      isa = refl;
      stack = refl;
      limits = refl;
      reserved = refl;
      controls = parts.1.1;
      steps = refl;
      position = refl;
      end_seen = refl;
      output = refl;
      heap_calls = refl;
      events = refl;
    }

-- noise agrees with what it replaces --

noise-agrees : (s : State) (noise : ℕ → ℕ) → StatesAgree s s → AreBytes noise → StatesAgree s (noisy s noise)
unfolding noisy
noise-agrees s noise d small = record {
  memory = record {
    each = λ a can i h clear.
        ap (λ b. bit_at (cond b (s.bytes a) (noise a)) i) (sym can);
    bits = d.memory.bits;
    one = d.memory.one;
    other = λ a. go (s.core.shadow a).accessible a;
  };
  registers = d.registers;
  shadow = refl;
  pc = refl;
  status = refl;
  frames = refl;
  blocks = refl;
  isa = refl;
  stack = refl;
  limits = refl;
  reserved = refl;
  controls = d.controls;
  steps = refl;
  position = refl;
  end_seen = refl;
  output = refl;
  heap_calls = refl;
  events = refl;
}
  where
    go : (b : Bool) (a : ℕ) → cond b (s.bytes a) (noise a) < 2 ^ 8
    go true a = d.memory.one a
    go false a = small a

-- the runs --

module _ (image : Image) (start : State) (setup : Setup) (law : StepAgrees setup) (marks : List Alteration)
    (begins : IsStartOf image start) (small : AreBytes start.bytes) (loose : DefineNothing start.core.isa marks)
    (hide : HideNothing start.core.blocks.begin marks) where
  -- no use before a step, so none before an earlier one
  one-fewer : (k : ℕ) → NoUse (pre start setup marks (suc k)).events → NoUse (pre start setup marks k).events
  unfolding pre
  one-fewer k none =
      subst NoUse (marks-events k marks (pre start setup marks k))
      (fewer (after_marks k marks (pre start setup marks k)) setup none)

  earlier : (n k : ℕ) → k ≤ n → NoUse (pre start setup marks n).events → NoUse (pre start setup marks k).events
  earlier zero k h none = let same : 0 ≡ k = omega arith in subst
      (λ j. NoUse (pre start setup marks j).events) same none
  earlier (suc n) k h none = elim (cases_eq k (suc n)) [
    | inl same ↦ subst (λ j. NoUse (pre start setup marks j).events) (sym same) none
    | inr other ↦ earlier n k (omega arith) (one-fewer n none)
  ]

  opened : (k : ℕ) → BlocksAreOpen (post start setup marks k).core
  opened k = blocks-open _ (heap-stays-open image start setup marks begins hide k)

  pub itself : (n : ℕ) → NoUse (pre start setup marks n).events
      → IsDisturbed start setup marks n (pre start setup marks)
  unfolding pre
  itself n none = record {
    first = start-itself image start begins small;
    next = λ k h. begun start start setup law marks loose (start-itself image start begins small) (suc k)
        (λ j l. opened j) (earlier n (suc k) (omega arith) none);
  }

  module _ (noise : ℕ → ℕ → ℕ) (bytes : (k : ℕ) → AreBytes (noise k)) where
    abbrev noised : ℕ → State
    noised k = noisy_run start setup marks noise k

    -- what a step of the noisy run leaves agrees with itself
    stepped : (k : ℕ) → IsDisturbed start setup marks k noised → NoUse (pre start setup marks (suc k)).events
        → StatesAgree (exec (after_marks k marks (noised k)) setup) (exec (after_marks k marks (noised k)) setup)
    unfolding pre post
    stepped k run none =
        let here = runs-agree start setup law marks noised loose k run (λ j l. opened j) (one-fewer k none) in
        second-itself _ _ (law (after_marks k marks (pre start setup marks k)) (after_marks k marks (noised k))
        (opened k)
        (after-agree k marks (pre start setup marks k) (noised k) (loose-along start setup marks k loose) here) none)

    pub noisy-disturbed : (n : ℕ) → NoUse (pre start setup marks n).events → IsDisturbed start setup marks n noised
    unfolding noisy_run
    noisy-disturbed zero none = record {
      first = noise-agrees start (noise 0) (start-itself image start begins small) (bytes 0);
      next = λ k h. absurd (omega (arith, h));
    }
    noisy-disturbed (suc n) none =
        let run = noisy-disturbed n (one-fewer n none) in
        record {
          first = run.first;
          next = λ k h. elim (cases_lt k n) [
            | inl below ↦ run.next k below
            | inr above ↦
                let same : n ≡ k = omega (arith, h, above) in
                subst (λ j. StatesAgree (exec (after_marks j marks (noised j)) setup) (noised (suc j))) same
                (noise-agrees _ (noise (suc n)) (stepped n run none) (bytes (suc n)))
          ];
        }

pub disturbed-runs-exist : (input : List ℕ) → ((k : ℕ) → slice_index input k < 2 ^ 8) → DisturbedRunsExist input
disturbed-runs-exist input fits = record {
  itself = λ image start setup marks n begins small is loose hide none.
      itself image start setup (law-of input fits setup is) marks begins small loose hide n none;
  noisy = λ image start setup marks n begins small is loose hide none noise bytes.
      noisy-disturbed image start setup (law-of input fits setup is) marks begins small loose hide noise bytes n none;
}

-- The theorem on a program's run from step zero.
use Rattle.std.proofs.Common.{◌≡◌, ℕ, zero, suc, ◌^◌, ◌<◌, ◌≤◌, refl, sym, ap, ◌∙◌, subst, List, [], All, inl, inr}
use Rattle.std.proofs.Common.{arith}
use Rattle.std.proofs.Common.{slice_index_or, slice_set, length}
use Rattle.std.specs.Prelude.{replicate, slice_index as at_index}
use Rattle.std.proofs.lemmas.Bool.{cases_eq, cases_lt}
use Rattle.std.proofs.lemmas.List.{get_or-set_same, get_or-set_other, get_or_past, length-set}
use Rattle.definedness.specs.declared.Bits.{Bits}
use Rattle.guest_elf.specs.declared.image.Image.{Image}
use Rattle.guest_machine.specs.State.{Core, State}
use Rattle.guest_machine.specs.Registers.{known}
use Rattle.guest_machine.specs.Exec.{exec, touched_of}
use Rattle.guest_machine.specs.Run.{start_state, stack_start, pre, post, after_marks}
use Rattle.guest_machine.specs.declared.setup.Setup.{Setup}
use Rattle.clean_reports.specs.Agreement.{StatesAgree, ValuesAgree}
use Rattle.clean_reports.specs.Disturbed.{IsStartOf}
use Rattle.clean_reports.specs.Heap.{BlocksAreOpen}
use Rattle.clean_reports.specs.Uses.{NoUse}
use Rattle.clean_reports.proofs.HeapRuns.{heap-stays-open, blocks-open}
use Rattle.clean_reports.proofs.Noise.{disturbed-runs-exist}
use Rattle.any_runs.specs.Stands.{Stands, BitsStand, before, at_step}
use Rattle.any_runs.specs.Inputs.{AnyInput, unchanged, blurred_before}
use Rattle.any_runs.proofs.Blurring.{inputs-stand}

-- no register of the start has an undefined bit

copies-none : (n r : ℕ) → (slice_index_or (replicate n (known 0)) r (known 0)).undef ≡ 0
copies-none zero r = refl
copies-none (suc n) zero = refl
copies-none (suc n) (suc r) = copies-none n r

set-none : (xs : List Bits) (k v : ℕ) → ((r : ℕ) → (slice_index_or xs r (known 0)).undef ≡ 0) → (r : ℕ)
    → (slice_index_or (slice_set xs k (known v)) r (known 0)).undef ≡ 0
set-none xs k v none r = elim (cases_eq r k) [
  | inl same ↦ elim (cases_lt k (length xs)) [
    | inl within ↦
        subst (λ n. (slice_index_or (slice_set xs k (known v)) n (known 0)).undef ≡ 0) (sym same)
        (ap (λ (b : Bits). b.undef) (get_or-set_same xs k (known v) (known 0) within))
    | inr past ↦
        let far : length (slice_set xs k (known v)) ≤ r = subst (λ n. n ≤ r) (sym (length-set xs k (known v)))
        (omega arith) in
        ap (λ (b : Bits). b.undef) (get_or_past (slice_set xs k (known v)) r (known 0) far)
  ]
  | inr apart ↦ ap (λ (b : Bits). b.undef) (get_or-set_other xs k r (known v) (known 0) apart) ∙ none r
]

start-none : (image : Image) (r : ℕ) → (slice_index_or (start_state image).core.registers r (known 0)).undef ≡ 0
unfolding start_state
start-none image r = set-none (replicate 32 (known 0)) 2 (stack_start image) (copies-none 32) r

-- a value with no undefined bit stands for itself
itself : (x : Bits) → ValuesAgree x x → x.undef ≡ 0 → BitsStand x x
itself x v none = record {
  value = v.value;
  undef = λ i h e. e;
  one = v.one;
  other = v.other;
  small = subst (λ u. u < 2 ^ 32) (sym none) (omega arith);
}

module _ (image : Image) (start : State) (begins : IsStartOf image start) where
  register-none : (r : ℕ) → (slice_index_or start.core.registers r (known 0)).undef ≡ 0
  register-none r = ap (λ (k : Core). (slice_index_or k.registers r (known 0)).undef) begins.core ∙ start-none image r

  control-none : (n : ℕ) → (start.core.controls n).undef ≡ 0
  unfolding start_state
  control-none n = ap (λ (k : Core). (k.controls n).undef) begins.core

  pub start-stands : StatesAgree start start → Stands start start
  start-stands d = record {
    memory = record {
      shadow = λ a. record {
        accessible = refl;
        undef = λ i h e. e;
        one = d.memory.bits a;
        other = d.memory.bits a;
      };
      each = d.memory.each;
      one = d.memory.one;
      other = d.memory.other;
    };
    registers = record { count = refl; each = λ r. itself _ (d.registers.each r) (register-none r) };
    controls = λ n. itself _ (d.controls n) (control-none n);
    pc = refl;
    status = refl;
    frames = refl;
    blocks = refl;
    isa = refl;
    stack = refl;
    limits = refl;
    reserved = refl;
    steps = refl;
    position = refl;
    end_seen = refl;
    output = refl;
    heap_calls = refl;
    events = refl;
  }

-- a run without changes is one without marks
pub plain : (start : State) (setup : Setup) (n : ℕ) → before start setup unchanged n ≡ pre start setup [] n
unfolding before pre after_marks
plain start setup zero = refl
plain start setup (suc k) = ap (λ (s : State). exec s setup) (plain start setup k)

pub any-input : (input another : List ℕ) → ((k : ℕ) → at_index input k < 2 ^ 8)
    → All (λ byte. byte < 2 ^ 8) input → All (λ byte. byte < 2 ^ 8) another → AnyInput input another
unfolding post after_marks pre
any-input input another slice small smaller image start setup other any n begins bytes is also d fit =
    let first = ((disturbed-runs-exist input slice).itself image start setup [] 0 begins bytes is tt tt
    (subst NoUse (sym begins.events) tt)).first in
    let open-at : (k : ℕ) → k < n → BlocksAreOpen (at_step start other unchanged k).core =
    λ k h. subst (λ (s : State). BlocksAreOpen s.core) (sym (plain start other k))
    (blocks-open _ (heap-stays-open image start other [] begins tt k)) in
    let both = inputs-stand input another small smaller setup other any start start unchanged unchanged n is also d
    (start-stands image start begins first) (λ k h. record { stands = λ s. s; events = refl }) fit open-at in
    record {
      stands = subst (λ (t : State). Stands (blurred_before any start setup unchanged n) t) (plain start other n)
          both.0;
      touched = λ k h. both.1 k h ∙ ap (λ (t : State). touched_of t other) (plain start other k);
    }

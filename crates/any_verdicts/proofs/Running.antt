-- A run that is fit, step by step.
use Rattle.std.proofs.Common.{◌≡◌, ℕ, suc, ◌+◌, ◌^◌, ◌<◌, All, Bool, List, arith, inl, inr, length}
use Rattle.std.proofs.Common.{refl, slice_index, subst, sym}
use Rattle.std.proofs.lemmas.Bool.{cases_eq, cases_lt}
use Rattle.std.proofs.lemmas.List.{get_or_past}
use Rattle.guest_elf.specs.declared.image.Image.{Image}
use Rattle.guest_machine.specs.Exec.{exec}
use Rattle.guest_machine.specs.State.{State}
use Rattle.guest_machine.specs.declared.setup.Setup.{Setup}
use Rattle.clean_reports.specs.Agreement.{AreBytes}
use Rattle.clean_reports.specs.Disturbed.{HasBytes, IsStartOf}
use Rattle.clean_reports.specs.Uses.{NoUse}
use Rattle.any_runs.specs.Echoes.{WritesOpen, kept}
use Rattle.any_runs.specs.Inputs.{blurred, blurred_before}
use Rattle.any_runs.specs.Secrets.{IsSecretFit, Secrets, faded_at, known_at, secret_at, secret_before}
use Rattle.any_runs.specs.Sharper.{HasStackPointer}
use Rattle.any_runs.proofs.Secrets.{any-secrets}
use Rattle.any_verdicts.specs.Verdicts.{AllOthersAreSame, FailsAt, FailsBefore, FailsFirst, IsAnyVerdict, IsFitStep}
use Rattle.any_verdicts.specs.declared.verdict.AnyVerdict.{AnyVerdict}
use Rattle.any_verdicts.specs.declared.verdict.AnyVerdict.TheVariants.{Same, Use, StackPointer, Write, Closed}
use Rattle.any_verdicts.specs.declared.verdict.Closed.TheVariants as closed

-- what is in the way of a step is so of the step after what is revealed
pub fails-before : (secrets : Secrets) (s : State) (setup : Setup) (k : ℕ) (verdict : AnyVerdict)
    → FailsAt secrets.input (known_at (secrets.revealed k) s) setup k verdict → FailsBefore secrets s setup k verdict
fails-before secrets s setup k (Same ended read) f = f
fails-before secrets s setup k (Use found) f = f
fails-before secrets s setup k (StackPointer j) f = f
fails-before secrets s setup k (Write j) f = f
fails-before secrets s setup k (Closed (closed.Input j position)) f = f
fails-before secrets s setup k (Closed (closed.Memory addr)) f = f
fails-before secrets s setup k (Closed (closed.Revealed j addr)) f = absurd f

-- the first step that isn't fit is the verdict
pub first-fails : (secrets : Secrets) (start : State) (setup : Setup) (n : ℕ) (verdict : AnyVerdict)
    → FailsFirst secrets start setup n verdict → IsAnyVerdict secrets start setup n verdict
first-fails secrets start setup n (Same ended read) f = absurd f.fails
first-fails secrets start setup n (Use found) f = f
first-fails secrets start setup n (StackPointer j) f = f
first-fails secrets start setup n (Write j) f = f
first-fails secrets start setup n (Closed (closed.Input j position)) f = f
first-fails secrets start setup n (Closed (closed.Memory addr)) f = absurd f.fails
first-fails secrets start setup n (Closed (closed.Revealed j addr)) f = f

-- a run of no steps is fit
pub fit-none : (secrets : Secrets) (start : State) (setup : Setup) → NoUse (kept start.events)
    → IsSecretFit secrets start setup 0
unfolding blurred_before faded_at
fit-none secrets start setup none = record {
  pointer = λ k h. absurd (omega (arith, h));
  left = λ k h. absurd (omega (arith, h));
  writes = λ k h. absurd (omega (arith, h));
  uses = none;
}

before-more : (secrets : Secrets) (start : State) (setup : Setup) (k : ℕ)
    → secret_before secrets start setup (suc k) ≡ blurred secrets.input (secret_at secrets start setup k) setup
unfolding blurred_before
before-more secrets start setup k = refl

blurred-use : (any : ℕ → Bool) (s : State) (setup : Setup) → NoUse (kept (exec s setup).events)
    → NoUse (kept (blurred any s setup).events)
unfolding blurred
blurred-use any s setup none = none

known-use : (test : ℕ → Bool) (s : State) → NoUse (kept s.events) → NoUse (kept (known_at test s).events)
unfolding known_at
known-use test s none = none

-- a run that is fit, and then a step that is
fit-suc : (secrets : Secrets) (start : State) (setup : Setup) (k : ℕ) → IsSecretFit secrets start setup k
    → IsFitStep (secret_at secrets start setup k) setup → IsSecretFit secrets start setup (suc k)
fit-suc secrets start setup k fit step =
    let at = secret_at secrets start setup in
    let more : (P : State → Type 0) → ((j : ℕ) → j < k → P (at j)) → P (at k) → (j : ℕ) → j < suc k → P (at j) =
    λ P each last j h. elim (cases_eq j k) [
      | inl same ↦ subst (λ i. P (at i)) (sym same) last
      | inr less ↦ each j (omega arith)
    ] in
    record {
      pointer = more HasStackPointer fit.pointer step.pointer;
      left = more (λ s. HasStackPointer (exec s setup)) fit.left step.left;
      writes = more (λ s. WritesOpen s setup) fit.writes step.writes;
      uses = subst (λ (s : State). NoUse (kept s.events)) (sym (before-more secrets start setup k))
          (blurred-use secrets.input (at k) setup (step.uses (known-use (secrets.revealed k) _ fit.uses)));
    }

pub fit-more : (secrets : Secrets) (start : State) (setup : Setup) (k : ℕ) → IsSecretFit secrets start setup k
    → IsFitStep (secret_at secrets start setup k) setup → IsSecretFit secrets start setup (k + 1)
fit-more secrets start setup k fit step =
    let next : suc k ≡ k + 1 = omega arith in
    subst (λ n. IsSecretFit secrets start setup n) next (fit-suc secrets start setup k fit step)

-- the state before the next step
pub next-before : (secrets : Secrets) (start : State) (setup : Setup) (k : ℕ)
    → blurred secrets.input (secret_at secrets start setup k) setup ≡ secret_before secrets start setup (k + 1)
next-before secrets start setup k =
    let next : suc k ≡ k + 1 = omega arith in
    subst
    (λ n. blurred secrets.input (secret_at secrets start setup k) setup ≡ secret_before secrets start setup n) next
    (sym (before-more secrets start setup k))

pub first-before : (secrets : Secrets) (start : State) (setup : Setup)
    → faded_at secrets.memory start ≡ secret_before secrets start setup 0
unfolding blurred_before
first-before secrets start setup = refl

-- the law of a run that is fit --

slices : (xs : List ℕ) → All (λ byte. byte < 2 ^ 8) xs → (k : ℕ) → slice_index xs k < 2 ^ 8
slices xs small k = elim (cases_lt k (length xs)) [
  | inl within ↦ small k 0 within
  | inr past ↦ subst (λ v. v < 2 ^ 8) (sym (get_or_past xs k 0 past)) (omega arith)
]

others-same : (image : Image) (secrets : Secrets) (start : State) (setup : Setup) (n : ℕ) → IsStartOf image start
    → AreBytes start.bytes → HasBytes setup → IsSecretFit secrets start setup n
    → AllOthersAreSame secrets start setup n
others-same image secrets start setup n begins bytes small fit begun other smaller another =
    any-secrets setup.input other.input (slices setup.input small) small smaller image start begun setup other secrets n
    begins bytes refl refl fit another

pub certified : (image : Image) (secrets : Secrets) (start : State) (setup : Setup) (n : ℕ) (verdict : AnyVerdict)
    (ended : Bool) (read : ℕ) → verdict ≡ Same ended read → IsStartOf image start → AreBytes start.bytes
    → HasBytes setup
    → (NoUse (kept start.events) → IsAnyVerdict secrets start setup n verdict)
    → AllOthersAreSame secrets start setup n
unfolding kept
certified image secrets start setup n verdict ended read is begins bytes small told =
    let none : NoUse (kept start.events) = subst (λ es. NoUse (kept es)) (sym begins.events) tt in
    others-same image secrets start setup n begins bytes small
    (subst (λ v. IsAnyVerdict secrets start setup n v) is (told none)).0

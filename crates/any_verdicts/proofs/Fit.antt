-- A step that is fit.
use Rattle.std.proofs.Common.{◌≡◌, ◌∙◌, ℕ, ◌-◌, ◌+◌, Bool, false, IfErr, IfOk, Ok, Err, Result}
use Rattle.std.proofs.Common.{ap, arith, length}
use Rattle.std.proofs.Common.{nat_lt, subst, sym}
use Rattle.guest_machine.specs.Exec.{exec, intake_at, touched_at, touched_of}
use Rattle.guest_machine.specs.State.{State}
use Rattle.guest_machine.specs.declared.setup.Setup.{Setup}
use Rattle.clean_reports.specs.Uses.{NoUse}
use Rattle.any_runs.specs.Echoes.{kept}
use Rattle.any_runs.specs.Inputs.{blurred, is_given}
use Rattle.any_runs.specs.Secrets.{faded_at}
use Rattle.any_runs.specs.Sharper.{HasStackPointer}
use Rattle.any_runs.proofs.Opening.{opens-after, opens-quietly, quiet-events}
use Rattle.any_verdicts.specs.Verdicts.{IsFitStep, IsOpen}

-- results of results

pub both-ok : {A E F : Type 0} → (P : A → Type 0) (r : Result (Result A E) F) → ((m : A) → P m)
    → IfOk r (λ x. IfOk x P)
both-ok P (Ok (Ok m)) each = each m
both-ok P (Ok (Err e)) each = tt
both-ok P (Err e) each = tt

pub both-weaker : {A E F : Type 0} → (P Q : A → Type 0) (r : Result (Result A E) F) → ((m : A) → P m → Q m)
    → IfOk r (λ x. IfOk x P) → IfOk r (λ x. IfOk x Q)
both-weaker P Q (Ok (Ok m)) weaker p = weaker m p
both-weaker P Q (Ok (Err e)) weaker p = tt
both-weaker P Q (Err e) weaker p = tt

-- a step that raises no error is fit
pub fit-quietly : (s : State) (setup : Setup) → HasStackPointer s → HasStackPointer (exec s setup)
    → nat_lt (length s.events) (length (exec s setup).events) ≡ false → IsFitStep s setup
fit-quietly s setup pointer left few = record {
  pointer = pointer;
  left = left;
  writes = opens-quietly s setup few;
  uses = λ none. subst (λ es. NoUse (kept es)) (sym (quiet-events s setup few)) none;
}

-- and one whose errors are no uses, if what it read may be accessed
pub fit-after : (s : State) (setup : Setup) → HasStackPointer s → HasStackPointer (exec s setup)
    → NoUse (kept (exec s setup).events) → IsOpen (exec s setup) (touched_of s setup).reads → IsFitStep s setup
fit-after s setup pointer left none opened = record {
  pointer = pointer;
  left = left;
  writes = opens-after s setup none opened;
  uses = λ before. none;
}

-- the state after a step in which what was read is undefined
pub blurred-is : (any : ℕ → Bool) (s : State) (setup : Setup) (from : ℕ) → from ≡ s.position
    → faded_at (is_given any from ((exec s setup).position - from) (touched_of s setup).writes) (exec s setup)
    ≡ blurred any s setup
unfolding blurred faded_at exec touched_at
blurred-is any s setup from at =
    let count = (intake_at s.core s.bytes s.position setup).count in
    let less : s.position + count - s.position ≡ count = omega arith in
    let many : (exec s setup).position - from ≡ count = ap (λ p. (exec s setup).position - p) at ∙ less in
    λ i. faded_at (is_given any (at i) (many i) (touched_of s setup).writes) (exec s setup)

pub both-err : {A E F : Type 0} → (P Q : E → Type 0) (r : Result (Result A E) F) → ((e : E) → P e → Q e)
    → IfOk r (λ x. IfErr x P) → IfOk r (λ x. IfErr x Q)
both-err P Q (Ok (Ok m)) weaker p = tt
both-err P Q (Ok (Err e)) weaker p = weaker e p
both-err P Q (Err e) weaker p = tt

pub ok-weaker : {A F : Type 0} → (P Q : A → Type 0) (r : Result A F) → ((m : A) → P m → Q m) → IfOk r P → IfOk r Q
ok-weaker P Q (Ok m) weaker p = weaker m p
ok-weaker P Q (Err e) weaker p = tt

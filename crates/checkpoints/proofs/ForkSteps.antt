-- The last step at which an edit doesn't show, and the edited run up to there.
use Rattle.std.proofs.Common.{◌≡◌, ℕ, ◌+◌, ◌-◌, ◌/◌, ◌^◌, ◌<◌, ◌≤◌, Bool, true, false, cond, nat_lt, List}
use Rattle.std.proofs.Common.{Option, Some}
use Rattle.std.proofs.Common.{None}
use Rattle.std.proofs.Common.{refl, ap, sym, ◌∙◌, subst, arith, inl, inr}
use Rattle.std.specs.Prelude.{OnOk, Result, Ok, Err, unwrap_or}
use Rattle.std.proofs.lemmas.Bool.{cases_lt}
use Rattle.guest_machine.specs.State.{State}
use Rattle.instructions.specs.Codes.{len_of}
use Rattle.instructions.specs.declared.code.Code.{Code}
use Rattle.guest_machine.specs.Run.{pre, poked}
use Rattle.run_values.specs.declared.alteration.Alteration.{Alteration}
use Rattle.guest_machine.specs.declared.setup.Setup.{Setup}
use Rattle.run_values.specs.declared.span.Span.{Span}
use Rattle.checkpoints.specs.Entries.{below, entry_of}
use Rattle.checkpoints.specs.FirstUses.{earliest, first_of_code, uses_code, IsFirstBelow}
use Rattle.checkpoints.specs.declared.uses.FirstUses.{FirstUses}
use Rattle.checkpoints.specs.FirstEffects.{IsBelowFirst}
use Rattle.checkpoints.specs.Effects.{EffectShows, IsOfSetup, Run, LeadsTo, WritesWithin, effect_by, written_by}
use Rattle.checkpoints.specs.Forks.{IsLastUnshown, WritesWhole}
use Rattle.checkpoints.specs.declared.effect.Effect.{Effect}
use Rattle.checkpoints.specs.declared.effect.Effect.TheVariants.{Nowhere, After, Input, End, Heap, Patch, Anew}
use Rattle.checkpoints.proofs.RunSteps.{PokeLaws, same-pre, pre-poked}
use Rattle.checkpoints.proofs.FirstSteps.{is-low}
use Rattle.checkpoints.proofs.TrailSteps.{touches-none}
use Rattle.checkpoints.proofs.EffectSteps.{Laws, goes-alike, told-use}

pub at-ok : {X E : Type 0} (result : Result X E) (P : Type 0) → P → OnOk result P
at-ok (Ok x) P holds = holds
at-ok (Err e) P holds = tt

-- another step at which it doesn't show
pub hidden-more : (P : ℕ → Type 0) (k : ℕ) → IsBelowFirst P k → (P (k + 1) → ⊥) → IsBelowFirst P (k + 1)
hidden-more P k hidden none j l shown = elim (cases_lt k j) [
  | inl past ↦ none (let at : j ≡ k + 1 = omega arith in subst P at shown)
  | inr low ↦ hidden j low shown
]

-- the step of a first use, or the last step
within-below : (n e : ℕ) (x : ℕ) → below n e ≡ Some x → x < n
within-below n e x h = go (nat_lt e n) refl h
  where
    go : (b : Bool) → nat_lt e n ≡ b → cond b (Some e) None ≡ Some x → x < n
    go true t f = let low = is-low e n t in let same : e ≡ x = cc in omega arith
    go false t f = cc

pub first-within : (uses : FirstUses) (addr len n : ℕ) → unwrap_or (first_of_code uses addr len n) n ≤ n
first-within uses addr len n = go (below n (entry_of uses (addr / 4))) (below n (entry_of uses ((addr + len - 1) / 4)))
    (within-below n (entry_of uses (addr / 4))) (within-below n (entry_of uses ((addr + len - 1) / 4)))
  where
    go : (r s : Option ℕ) → ((x : ℕ) → r ≡ Some x → x < n) → ((y : ℕ) → s ≡ Some y → y < n)
        → unwrap_or (earliest r s) n ≤ n
    go None None h g = omega arith
    go None (Some y) h g = let low = g y refl in omega arith
    go (Some x) None h g = let low = h x refl in omega arith
    go (Some x) (Some y) h g = let low = h x refl in omega arith

pub first-is-last : (addr : ℕ) (code : Code) (last : ℕ) (run : Run) (found : Option ℕ)
    → IsFirstBelow (uses_code run.start run.setup run.marks addr (len_of code)) last found
    → IsLastUnshown (Patch addr code) run last (unwrap_or found last)
first-is-last addr code last run None unused = record {
  within = omega arith;
  hidden = told-use (uses_code run.start run.setup run.marks addr (len_of code)) last None unused;
  next = λ l hidden. absurd (omega arith);
}
first-is-last addr code last run (Some s) first = record {
  within = let l = first.0 in omega arith;
  hidden = told-use (uses_code run.start run.setup run.marks addr (len_of code)) s None first.2;
  next = λ l hidden. hidden (s + 1) (omega arith) (s, refl, first.1);
}

-- a code that is written anew: step 0 alone is before the edit shows
pub anew-is-first : (addr : ℕ) (code : Code) (last : ℕ) (run : Run) → IsLastUnshown (Anew addr code) run last 0
anew-is-first addr code last run = record {
  within = omega arith;
  hidden = λ j low shown. omega arith;
  next = λ l hidden. hidden 1 (omega arith) (omega arith);
}

-- other marks at a step: the step itself is the last one before they show
pub step-is-last : (step last : ℕ) (run : Run) → step ≤ last → IsLastUnshown (After step) run last step
step-is-last step last run l = record {
  within = l;
  hidden = λ j low shown. omega arith;
  next = λ l hidden. hidden (step + 1) (omega arith) refl;
}

-- an edit of the setup writes no code
pub whole-of-setup : (effect : Effect) → IsOfSetup effect → WritesWhole effect
whole-of-setup Nowhere of = tt
whole-of-setup (Input offset) of = tt
whole-of-setup End of = tt
whole-of-setup Heap of = tt
whole-of-setup (After step) of = tt
whole-of-setup (Patch addr code) of = absurd of
whole-of-setup (Anew addr code) of = absurd of

pub within-of-setup : (ranges : List Span) (effect : Effect) → IsOfSetup effect → WritesWithin ranges effect
within-of-setup ranges Nowhere of = tt
within-of-setup ranges (Input offset) of = tt
within-of-setup ranges End of = tt
within-of-setup ranges Heap of = tt
within-of-setup ranges (After step) of = tt
within-of-setup ranges (Patch addr code) of = absurd of
within-of-setup ranges (Anew addr code) of = absurd of

pub code-whole : (b : Bool) (addr : ℕ) (code : Code) → addr + len_of code ≤ 2 ^ 32 → WritesWhole (effect_by b addr code)
code-whole true addr code whole = whole
code-whole false addr code whole = whole

-- a code that is written anew: no step is before the fork
is-none : (k : ℕ) → (0 < k → ⊥) → k ≡ 0
is-none k h = elim (cases_lt 0 k) [
  | inl past ↦ absurd (h past)
  | inr within ↦ omega arith
]

pre-first : (start : State) (setup : Setup) (marks : List Alteration) → pre start setup marks 0 ≡ start
unfolding pre
pre-first start setup marks = refl

-- the state of the edited run before a step at which the edit doesn't show
pub pre-led : Laws → PokeLaws → (effect : Effect) (one other : Run) (k : ℕ) → WritesWhole effect
    → LeadsTo effect one other
    → IsBelowFirst (EffectShows effect one.start one.setup one.marks) k
    → pre other.start other.setup other.marks k ≡ written_by effect (pre one.start one.setup one.marks k)
pre-led laws law (Patch addr code) one other k whole l hidden =
    ap (λ (s : State). pre s other.setup other.marks k) l.start
    ∙ ap (λ (s : Setup). pre (poked one.start addr code) s other.marks k) (sym l.differ.0)
    ∙ ap (λ (ms : List Alteration). pre (poked one.start addr code) one.setup ms k) (sym l.differ.1)
    ∙ pre-poked law one.start one.setup one.marks addr code k whole l.differ.2
    (touches-none one.start one.setup one.marks addr code k whole hidden) k (omega arith)
pre-led laws law (Anew addr code) one other k whole l hidden =
    let first = is-none k (hidden k (omega arith)) in
    subst (λ (j : ℕ). pre other.start other.setup other.marks j
    ≡ poked (pre one.start one.setup one.marks j) addr code) (sym first) (pre-first other.start other.setup other.marks
    ∙ l.start ∙ ap (λ (s : State). poked s addr code) (sym (pre-first one.start one.setup one.marks)))
pre-led laws law effect one other k whole l hidden =
    ap (λ (s : State). pre s other.setup other.marks k) l.start
    ∙ sym (same-pre one.start one.setup one.marks other.setup other.marks k
    (goes-alike laws effect one.start one.setup other.setup one.marks other.marks k l.differ hidden) k (omega arith))

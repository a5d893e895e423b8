-- Runs with an alteration before a step that does the same without it.
use Rattle.std.proofs.Common.{◌≡◌, ℕ, zero, suc, ◌+◌, ◌-◌, ◌<◌, ◌≤◌, ◌==◌, Bool, true, false, cond, List, [], ◌∷◌}
use Rattle.std.proofs.Common.{◌++◌, ◌⊎◌, inl, inr, refl, ap, sym, subst, ◌∙◌, arith}
use Rattle.std.specs.Prelude.{fold}
use Rattle.std.proofs.lemmas.Bool.Decides.{nat_tests}
use Rattle.definedness.specs.declared.Bits.{Bits}
use Rattle.guest_machine.specs.Alterations.{altered, altered_bytes, altered_core, turned}
use Rattle.guest_machine.specs.Exec.{exec, is_running}
use Rattle.guest_machine.specs.Registers.{register, set_register}
use Rattle.guest_machine.specs.Run.{after_marks, marks_at, post, pre}
use Rattle.guest_machine.specs.State.{State}
use Rattle.guest_machine.specs.declared.setup.Setup.{Setup}
use Rattle.run_values.specs.declared.alteration.Act.{Act}
use Rattle.run_values.specs.declared.alteration.Act.TheVariants.{Make, Set, Flip, Jump, FlipPc, Write, Turn, Skip}
use Rattle.run_values.specs.declared.alteration.Alteration.{Alteration}
use Rattle.pruning.specs.declared.passing.Passing.TheVariants.{Keeps, Overwrites}
use Rattle.pruning.specs.Passing.{passing, with_register}
use Rattle.pruning.specs.Laws.{IsOf, also, RunsKeep, RunsOverwrite}
use Rattle.pruning.proofs.StepLaw.{keeps-registers, overwrites-registers, runs-before}

same : (k : ℕ) → (k == k) ≡ true
same k = grind (arith, nat_tests)

differs : (j k : ℕ) → j < k → (j == k) ≡ false
differs j k h = grind (arith, nat_tests)

differs-back : (j k : ℕ) → k < j → (j == k) ≡ false
differs-back j k h = grind (arith, nat_tests)

-- ---- one alteration more

-- those of its step
more : (k : ℕ) (marks : List Alteration) (m : Alteration) (s : State)
    → fold altered s (marks_at k (marks ++ m ∷ []))
    ≡ fold altered (fold altered s (marks_at k marks)) (cond (m.step == k) (m ∷ []) [])
more k [] m s = refl
more k (x ∷ xs) m s = go (x.step == k) (more k xs m)
  where
    go : (b : Bool)
        → ((t : State) → fold altered t (marks_at k (xs ++ m ∷ []))
        ≡ fold altered (fold altered t (marks_at k xs)) (cond (m.step == k) (m ∷ []) []))
        → fold altered s (cond b (x ∷ marks_at k (xs ++ m ∷ [])) (marks_at k (xs ++ m ∷ [])))
        ≡ fold altered (fold altered s (cond b (x ∷ marks_at k xs) (marks_at k xs))) (cond (m.step == k) (m ∷ []) [])
    go true rest = rest (altered s x)
    go false rest = rest s

unfoldable pub by-act : ℕ → Act → State → State
by-act k act s = altered s (record { step = k; act = act })

also-there : (k : ℕ) (marks : List Alteration) (act : Act) (s : State)
    → after_marks k (also marks k act) s ≡ by-act k act (after_marks k marks s)
unfolding after_marks by-act
also-there k marks act s =
    let m : Alteration = record { step = k; act = act } in
    more k marks m s ∙ ap (λ b. fold altered (fold altered s (marks_at k marks)) (cond b (m ∷ []) [])) (same k)

also-elsewhere : (j k : ℕ) (marks : List Alteration) (act : Act) (s : State) → (k == j) ≡ false
    → after_marks j (also marks k act) s ≡ after_marks j marks s
unfolding after_marks
also-elsewhere j k marks act s h =
    let m : Alteration = record { step = k; act = act } in
    more j marks m s ∙ ap (λ b. fold altered (fold altered s (marks_at j marks)) (cond b (m ∷ []) [])) h

-- up to its step nothing is changed
before : (start : State) (setup : Setup) (marks : List Alteration) (k : ℕ) (act : Act) (j : ℕ) → j ≤ k
    → pre start setup (also marks k act) j ≡ pre start setup marks j
unfolding pre
before start setup marks k act zero h = refl
before start setup marks k act (suc j) h =
    ap (λ s. exec s setup) (also-elsewhere j k marks act (pre start setup (also marks k act) j)
    (differs-back k j (omega arith)))
    ∙ ap (λ s. exec (after_marks j marks s) setup) (before start setup marks k act j (omega arith))

-- at its step it comes after the others
at-step : (start : State) (setup : Setup) (marks : List Alteration) (k : ℕ) (act : Act)
    → post start setup (also marks k act) k ≡ by-act k act (post start setup marks k)
unfolding post
at-step start setup marks k act =
    also-there k marks act (pre start setup (also marks k act) k)
    ∙ ap (λ s. by-act k act (after_marks k marks s)) (before start setup marks k act k (omega arith))

-- two runs that come to the same state go the same way, if the same is altered from there on
record GoesAlike (one other : List Alteration) (from : ℕ) : Type 0 where
  each : (j : ℕ) (s : State) → from < j → after_marks j one s ≡ after_marks j other s

alike : (start : State) (setup : Setup) (one other : List Alteration) (from : ℕ) → GoesAlike one other from
    → post start setup one from ≡ post start setup other from
    → (n j : ℕ) → j ≡ n + from → post start setup one j ≡ post start setup other j
unfolding post pre
alike start setup one other from g here zero j e =
    subst (λ j. post start setup one j ≡ post start setup other j) (sym (at from j e)) here
  where
    at : (from j : ℕ) → j ≡ 0 + from → j ≡ from
    at from j e = omega arith
alike start setup one other from g here (suc n) zero e = absurd (omega arith)
alike start setup one other from g here (suc n) (suc j) e =
    g.each (suc j) (exec (post start setup one j) setup) (omega arith)
    ∙ ap (λ s. after_marks (suc j) other (exec s setup)) (alike start setup one other from g here n j (omega arith))

-- ---- an alteration of a register

bits-by : Act → Bits → Bits
bits-by (Set q value undef) old = record { value = value; undef = undef }
bits-by (Flip q mask) old = turned old mask
bits-by _ old = old

-- of a machine that runs
acts : (k : ℕ) (act : Act) (r : ℕ) (s : State) → IsOf act r → is_running s.core.status ≡ true
    → by-act k act s ≡ with_register s r (bits-by act (register s.core r))
unfolding by-act bits-by altered altered_core altered_bytes with_register
acts k (Make addr len kind) r s is runs = absurd is
acts k (Set q value undef) r s is runs =
    ap (λ b. record s {
      core = cond b (set_register s.core q (record { value = value; undef = undef })) s.core;
      bytes = cond b s.bytes s.bytes;
    }) runs
    ∙ ap (λ q. record s { core = set_register s.core q (record { value = value; undef = undef }) }) is
acts k (Flip q mask) r s is runs =
    ap (λ b. record s {
      core = cond b (set_register s.core q (turned (register s.core q) mask)) s.core;
      bytes = cond b s.bytes s.bytes;
    }) runs
    ∙ ap (λ q. record s { core = set_register s.core q (turned (register s.core q) mask) }) is
acts k (Jump target) r s is runs = absurd is
acts k (FlipPc mask) r s is runs = absurd is
acts k (Write addr width value) r s is runs = absurd is
acts k (Turn addr mask) r s is runs = absurd is
acts k Skip r s is runs = absurd is

-- of one that doesn't
rests : (k : ℕ) (act : Act) (r : ℕ) (s : State) → IsOf act r → is_running s.core.status ≡ false
    → by-act k act s ≡ s
unfolding by-act altered altered_core altered_bytes
rests k (Make addr len kind) r s is halted = absurd is
rests k (Set q value undef) r s is halted =
    ap (λ b. record s {
      core = cond b (set_register s.core q (record { value = value; undef = undef })) s.core;
      bytes = cond b s.bytes s.bytes;
    }) halted
rests k (Flip q mask) r s is halted =
    ap (λ b. record s {
      core = cond b (set_register s.core q (turned (register s.core q) mask)) s.core;
      bytes = cond b s.bytes s.bytes;
    }) halted
rests k (Jump target) r s is halted = absurd is
rests k (FlipPc mask) r s is halted = absurd is
rests k (Write addr width value) r s is halted = absurd is
rests k (Turn addr mask) r s is halted = absurd is
rests k Skip r s is halted = absurd is

-- ---- the two laws

next : (k : ℕ) → k + 1 ≡ suc k
next k = omega arith

-- the step from the altered state
stepped-kept : (setup : Setup) (k r : ℕ) (act : Act) (s : State) → 1 ≤ r → IsOf act r → passing s setup r ≡ Keeps
    → is_running (exec s setup).core.status ≡ true
    → exec (by-act k act s) setup ≡ by-act (suc k) act (exec s setup)
stepped-kept setup k r act s one is h then =
    let now = runs-before s setup then in
    let bits = bits-by act (register s.core r) in
    let law = keeps-registers s setup r bits one h in
    ap (λ t. exec t setup) (acts k act r s is now) ∙ law.0
    ∙ ap (λ (old : Bits). with_register (exec s setup) r (bits-by act old)) (sym law.1)
    ∙ sym (acts (suc k) act r (exec s setup) is then)

stepped-gone : (setup : Setup) (k r : ℕ) (act : Act) (s : State) → 1 ≤ r → IsOf act r → passing s setup r ≡ Overwrites
    → exec (by-act k act s) setup ≡ exec s setup
stepped-gone setup k r act s one is h = go (is_running s.core.status) refl
  where
    go : (b : Bool) → is_running s.core.status ≡ b → exec (by-act k act s) setup ≡ exec s setup
    go true e =
        ap (λ t. exec t setup) (acts k act r s is e)
        ∙ overwrites-registers s setup r (bits-by act (register s.core r)) one h
    go false e = ap (λ t. exec t setup) (rests k act r s is e)

-- ---- any alteration that commutes with the step, or is gone after it

module _ (start : State) (setup : Setup) (marks : List Alteration) (k : ℕ) (act : Act) where
  abbrev pub here : State
  here = post start setup marks k

  -- the step does the same before the alteration and after it; or the alteration is gone after the step
  abbrev pub Commutes : Type 0
  Commutes = exec (by-act k act here) setup ≡ by-act (suc k) act (exec here setup)

  abbrev pub IsGone : Type 0
  IsGone = exec (by-act k act here) setup ≡ exec here setup

  -- the state before the next step
  came-next : exec (post start setup (also marks k act) k) setup ≡ exec (by-act k act here) setup
  came-next = ap (λ s. exec s setup) (at-step start setup marks k act)

  kept-there : Commutes → marks_at (suc k) marks ≡ []
      → post start setup (also marks k act) (suc k) ≡ post start setup (also marks (suc k) act) (suc k)
  unfolding post pre after_marks
  kept-there stepped none =
      let quiet : (s : State) → after_marks (suc k) marks s ≡ s = λ s. ap (λ ms. fold altered s ms) none in
      let left = also-elsewhere (suc k) k marks act (pre start setup (also marks k act) (suc k))
      (differs k (suc k) (omega arith)) ∙ quiet (pre start setup (also marks k act) (suc k)) in
      left ∙ came-next ∙ stepped
      ∙ ap (by-act (suc k) act) (sym (quiet (pre start setup marks (suc k))))
      ∙ sym (at-step start setup marks (suc k) act)

  alike-later : GoesAlike (also marks k act) (also marks (suc k) act) (suc k)
  alike-later = record {
    each = λ j s later. also-elsewhere j k marks act s (differs k j (omega arith))
        ∙ sym (also-elsewhere j (suc k) marks act s (differs (suc k) j later));
  }

  gone-there : IsGone → post start setup (also marks k act) (suc k) ≡ post start setup marks (suc k)
  unfolding post pre
  gone-there stepped =
      also-elsewhere (suc k) k marks act (pre start setup (also marks k act) (suc k)) (differs k (suc k) (omega arith))
      ∙ ap (after_marks (suc k) marks) (came-next ∙ stepped)

  alike-without : GoesAlike (also marks k act) marks (suc k)
  alike-without = record { each = λ j s later. also-elsewhere j k marks act s (differs k j (omega arith)) }

  -- also where the next step begins
  gone-before : IsGone → (j : ℕ) → k < j → pre start setup (also marks k act) j ≡ pre start setup marks j
  unfolding post pre
  gone-before stepped zero later = absurd (omega arith)
  gone-before stepped (suc j) later = elim (split k j (omega arith)) [
    | inl here ↦
        subst (λ j. pre start setup (also marks k act) (suc j) ≡ pre start setup marks (suc j)) here
        (came-next ∙ stepped)
    | inr past ↦
        ap (λ s. exec s setup) (alike start setup (also marks k act) marks (suc k) alike-without (gone-there stepped)
        (j - suc k) j (omega arith))
  ]
    where
      split : (k j : ℕ) → k < suc j → (k ≡ j) ⊎ (k < j)
      split k j h = grind arith

module _ (start : State) (setup : Setup) (marks : List Alteration) (k : ℕ) (act : Act)
    (stepped : Commutes start setup marks k act) (none : marks_at (k + 1) marks ≡ []) where
  kept-post : (j : ℕ) → k < j → post start setup (also marks k act) j ≡ post start setup (also marks (k + 1) act) j
  kept-post j later =
      let n = next k in
      subst (λ m. post start setup (also marks k act) j ≡ post start setup (also marks m act) j) (sym n)
      (alike start setup (also marks k act) (also marks (suc k) act) (suc k) (alike-later start setup marks k act)
      (kept-there start setup marks k act stepped (subst (λ m. marks_at m marks ≡ []) n none))
      (j - suc k) j (omega arith))

  kept-pre : (j : ℕ) → k + 1 < j → pre start setup (also marks k act) j ≡ pre start setup (also marks (k + 1) act) j
  unfolding post pre
  kept-pre zero later = absurd (omega arith)
  kept-pre (suc j) later = ap (λ s. exec s setup) (kept-post j (omega arith))

  pub both-kept :
      ((j : ℕ) → k < j → post start setup (also marks k act) j ≡ post start setup (also marks (k + 1) act) j)
      × ((j : ℕ) → k + 1 < j → pre start setup (also marks k act) j ≡ pre start setup (also marks (k + 1) act) j)
  both-kept = (kept-post, kept-pre)

-- the program still runs where the next step begins
pub running-next : (start : State) (setup : Setup) (marks : List Alteration) (k : ℕ)
    → is_running (pre start setup marks (k + 1)).core.status ≡ true
    → is_running (exec (post start setup marks k) setup).core.status ≡ true
unfolding pre post
running-next start setup marks k = subst (λ m. is_running (pre start setup marks m).core.status ≡ true) (next k)

-- ---- an alteration of a register

pub runs-keep : RunsKeep
runs-keep start setup marks k r act one is h then none =
    both-kept start setup marks k act (stepped-kept setup k r act (post start setup marks k) one is h
    (running-next start setup marks k then)) none

pub runs-overwrite : RunsOverwrite
unfolding post
runs-overwrite start setup marks k r act one is h j later =
    let same = gone-before start setup marks k act
    (stepped-gone setup k r act (post start setup marks k) one is h) j later in (
      same,
      also-elsewhere j k marks act (pre start setup (also marks k act) j) (differs k j later)
          ∙ ap (after_marks j marks) same,
    )

-- Shadows changed at addresses that pass a test, one after another.
use Rattle.std.proofs.Common.{◌≡◌, ℕ, zero, suc, ◌<◌, ◌||◌, Bool, true, false, cond, refl, sym, ap, ◌∙◌, arith}
use Rattle.std.proofs.Common.{List, []}
use Rattle.std.proofs.Common.{◌∷◌, length, get_or}
use Rattle.std.proofs.Math.Path.{fun_ext}
use Rattle.std.specs.List.{list_any}
use Rattle.shadow_memory.specs.Shadows.{Shadow}
use Rattle.guest_machine.specs.State.{State}
use Rattle.any_runs.specs.Inputs.{faded}
use Rattle.any_runs.specs.Secrets.{faded_at, known_at, known_byte}

-- a change that is the same twice, and leaves whether a byte may be accessed
module _ (f : Shadow → Shadow) (again : (x : Shadow) → f (f x) ≡ f x)
    (keeps : (x : Shadow) → (f x).accessible ≡ x.accessible) where
  abbrev pub changed : (ℕ → Bool) → State → State
  changed test s = record s {
    core = record s.core { shadow = λ a. cond (test a) (f (s.core.shadow a)) (s.core.shadow a) };
  }

  -- a state by its shadows
  abbrev by : State → (ℕ → Shadow) → State
  by s g = record s { core = record s.core { shadow = g } }

  pub changed-none : (test : ℕ → Bool) (s : State) → ((a : ℕ) → test a ≡ false) → changed test s ≡ s
  changed-none test s none =
      λ i. by s (fun_ext (λ a. ap (λ b. cond b (f (s.core.shadow a)) (s.core.shadow a)) (none a)) i)

  pub changed-same : (p q : ℕ → Bool) (s : State) → ((a : ℕ) → p a ≡ q a) → changed p s ≡ changed q s
  changed-same p q s same = λ i. changed (λ a. same a i) s

  pub changed-twice : (p q : ℕ → Bool) (s : State) → changed p (changed q s) ≡ changed (λ a. q a || p a) s
  changed-twice p q s = λ i. by s (fun_ext (λ a. go (p a) (q a) (s.core.shadow a)) i)
    where
      go : (b d : Bool) (x : Shadow) → cond b (f (cond d (f x) x)) (cond d (f x) x) ≡ cond (d || b) (f x) x
      go true true x = again x
      go true false x = refl
      go false true x = refl
      go false false x = refl

  pub changed-open : (test : ℕ → Bool) (s : State) (a : ℕ)
      → ((changed test s).core.shadow a).accessible ≡ (s.core.shadow a).accessible
  changed-open test s a = go (test a) (s.core.shadow a)
    where
      go : (b : Bool) (x : Shadow) → (cond b (f x) x).accessible ≡ x.accessible
      go true x = keeps x
      go false x = refl

pub faded-again : (x : Shadow) → faded (faded x) ≡ faded x
unfolding faded
faded-again x = go x.accessible refl
  where
    u : Shadow
    u = record { accessible = true; undef = 255 }

    go : (b : Bool) → x.accessible ≡ b → cond (cond b u x).accessible u (cond b u x) ≡ cond b u x
    go true e = refl
    go false e = ap (λ b. cond b u x) e

pub faded-keeps : (x : Shadow) → (faded x).accessible ≡ x.accessible
unfolding faded
faded-keeps x = go x.accessible refl
  where
    go : (b : Bool) → x.accessible ≡ b
        → (cond b (let u : Shadow = record { accessible = true; undef = 255 } in u) x).accessible ≡ x.accessible
    go true e = sym e
    go false e = refl

pub known-again : (x : Shadow) → known_byte (known_byte x) ≡ known_byte x
unfolding known_byte
known-again x = go x.accessible refl
  where
    u : Shadow
    u = record { accessible = true; undef = 0 }

    go : (b : Bool) → x.accessible ≡ b → cond (cond b u x).accessible u (cond b u x) ≡ cond b u x
    go true e = refl
    go false e = ap (λ b. cond b u x) e

pub known-keeps : (x : Shadow) → (known_byte x).accessible ≡ x.accessible
unfolding known_byte
known-keeps x = go x.accessible refl
  where
    go : (b : Bool) → x.accessible ≡ b
        → (cond b (let u : Shadow = record { accessible = true; undef = 0 } in u) x).accessible ≡ x.accessible
    go true e = sym e
    go false e = refl

-- they are such changes

pub faded-open : (test : ℕ → Bool) (s : State) (a : ℕ)
    → ((faded_at test s).core.shadow a).accessible ≡ (s.core.shadow a).accessible
unfolding faded_at
faded-open test s a = changed-open faded faded-again faded-keeps test s a

pub known-open : (test : ℕ → Bool) (s : State) (a : ℕ)
    → ((known_at test s).core.shadow a).accessible ≡ (s.core.shadow a).accessible
unfolding known_at
known-open test s a = changed-open known_byte known-again known-keeps test s a

pub faded-none : (test : ℕ → Bool) (s : State) → ((a : ℕ) → test a ≡ false) → faded_at test s ≡ s
unfolding faded_at
faded-none test s none = changed-none faded faded-again faded-keeps test s none

pub known-none : (test : ℕ → Bool) (s : State) → ((a : ℕ) → test a ≡ false) → known_at test s ≡ s
unfolding known_at
known-none test s none = changed-none known_byte known-again known-keeps test s none

-- two changes are one, of a test that holds where one of theirs does

pub faded-more : (p q r : ℕ → Bool) (s : State) → ((a : ℕ) → r a ≡ (q a || p a))
    → faded_at p (faded_at q s) ≡ faded_at r s
unfolding faded_at
faded-more p q r s same =
    changed-twice faded faded-again faded-keeps p q s
    ∙ changed-same faded faded-again faded-keeps (λ a. q a || p a) r s (λ a. sym (same a))

pub known-more : (p q r : ℕ → Bool) (s : State) → ((a : ℕ) → r a ≡ (q a || p a))
    → known_at p (known_at q s) ≡ known_at r s
unfolding known_at
known-more p q r s same =
    changed-twice known_byte known-again known-keeps p q s
    ∙ changed-same known_byte known-again known-keeps (λ a. q a || p a) r s (λ a. sym (same a))

pub faded-same : (p q : ℕ → Bool) (s : State) → ((a : ℕ) → p a ≡ q a) → faded_at p s ≡ faded_at q s
unfolding faded_at
faded-same p q s same = changed-same faded faded-again faded-keeps p q s same

pub known-same : (p q : ℕ → Bool) (s : State) → ((a : ℕ) → p a ≡ q a) → known_at p s ≡ known_at q s
unfolding known_at
known-same p q s same = changed-same known_byte known-again known-keeps p q s same

pub or-none : (b : Bool) → (b || false) ≡ b
or-none true = refl
or-none false = refl

-- some element passes a test
pub any-at : {X : Type 0} → (p : X → Bool) (xs : List X) (i : ℕ) (d : X) → i < length xs → p (get_or xs i d) ≡ true
    → list_any p xs ≡ true
any-at p [] i d h e = absurd (omega (arith, h))
any-at p (x ∷ xs) zero d h e = ap (λ b. b || list_any p xs) e
any-at p (x ∷ xs) (suc i) d h e = go (p x) (any-at p xs i d (let k : suc i < suc (length xs) = h in omega arith) e)
  where
    go : (b : Bool) → list_any p xs ≡ true → (b || list_any p xs) ≡ true
    go true e = refl
    go false e = e

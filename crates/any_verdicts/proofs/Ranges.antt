-- Ranges of which each byte may be accessed, made undefined or known.
use Rattle.std.proofs.Common.{◌≡◌, ℕ, zero, suc, ◌+◌, ◌^◌, ◌<◌, ◌||◌, ◌&&◌, not, Bool, true, false, cond}
use Rattle.std.proofs.Common.{refl, sym, ap, ◌∙◌, subst, arith, Option, Some, None, nat_lt, unwrap_or}
use Rattle.std.proofs.Math.Path.{fun_ext}
use Rattle.std.proofs.lemmas.Bool.{and_parts, ltb-true, lt-ltb}
use Rattle.std.proofs.lemmas.Bool.Decides.{nat_tests}
use Rattle.std.specs.Option.{option_map}
use Rattle.shadow_memory.specs.Ranges.{above, changed_in, first_from, is_in, offset}
use Rattle.shadow_memory.specs.Shadows.{Shadow, bad_at, first_bad, is_bad, made_so}
use Rattle.shadow_memory.specs.declared.cells.Bad.{Bad}
use Rattle.shadow_memory.specs.declared.cells.RangeKind.TheVariants.{Defined, Undefined}
use Rattle.guest_machine.specs.Run.{made_state}
use Rattle.guest_machine.specs.State.{State}
use Rattle.clean_reports.proofs.Memory.{none-at}
use Rattle.any_runs.specs.Inputs.{faded}
use Rattle.any_runs.specs.Secrets.{faded_at, known_at, known_byte}

-- the first byte of a range that may not be accessed, if there is one --

no-bad : (f : ℕ → Shadow) (start : ℕ) (o : Option ℕ) → bad_at f start o ≡ None → o ≡ None
no-bad f start None e = refl
no-bad f start (Some i) e = cc

opened : (s : Shadow) → is_bad false s ≡ false → s.accessible ≡ true
opened s e = go s.accessible e
  where
    go : (b : Bool) → (not b || false) ≡ false → b ≡ true
    go true e = refl
    go false e = cc

shut : (s : Shadow) → is_bad false s ≡ true → s.accessible ≡ false
shut s e = go s.accessible e
  where
    go : (b : Bool) → (not b || false) ≡ true → b ≡ false
    go true e = cc
    go false e = refl

back : (start a : ℕ) → start < 2 ^ 32 → a < 2 ^ 32 → above start (offset start a) ≡ a
back start a small low = grind (arith, nat_tests)

forth : (start i : ℕ) → start < 2 ^ 32 → i < 2 ^ 32 → offset start (above start i) ≡ i
forth start i small low = grind (arith, nat_tests)

pub open-at : (f : ℕ → Shadow) (start n : ℕ) → start < 2 ^ 32 → first_bad f start n false ≡ None → (a : ℕ)
    → is_in start n a ≡ true → (f a).accessible ≡ true
unfolding first_bad
open-at f start n small none a within =
    let parts = and_parts (nat_lt a (2 ^ 32)) (nat_lt (offset start a) n) within in
    let below = ltb-true (offset start a) n parts.1 in
    let low = ltb-true a (2 ^ 32) parts.0 in
    subst (λ b. (f b).accessible ≡ true) (back start a small low)
    (opened (f (above start (offset start a)))
    (none-at (λ i. is_bad false (f (above start i))) n (no-bad f start _ none) (offset start a) below))

first-found : (p : ℕ → Bool) (i n k : ℕ) → first_from p i n ≡ Some k → (k < i + n) × (p k ≡ true)
unfolding first_from
first-found p i zero k e = cc
first-found p i (suc n) k e = go (p i) refl (first-found p (suc i) n k) e
  where
    go : (b : Bool) → p i ≡ b → (first_from p (suc i) n ≡ Some k → (k < suc i + n) × (p k ≡ true))
        → cond b (Some i) (first_from p (suc i) n) ≡ Some k → (k < i + suc n) × (p k ≡ true)
    go true q rest e = let same : i ≡ k = cc in (omega (arith, same), subst (λ j. p j ≡ true) same q)
    go false q rest e = let r = rest e in (let h = r.0 in omega arith, r.1)

-- an address that a first bad byte has
pub shut-at : (f : ℕ → Shadow) (start n addr : ℕ) → start < 2 ^ 32 → n < 2 ^ 32
    → Some addr ≡ option_map (λ (bad : Bad). bad.addr) (first_bad f start n false)
    → (is_in start n addr ≡ true) × ((f addr).accessible ≡ false)
unfolding first_bad
shut-at f start n addr small few e = go (first_from (λ i. is_bad false (f (above start i))) 0 n) refl e
  where
    go : (o : Option ℕ) → first_from (λ i. is_bad false (f (above start i))) 0 n ≡ o
        → Some addr ≡ option_map (λ (bad : Bad). bad.addr) (bad_at f start o)
        → (is_in start n addr ≡ true) × ((f addr).accessible ≡ false)
    go None q e = cc
    go (Some i) q e =
        let found = first-found (λ i. is_bad false (f (above start i))) 0 n i q in
        let below : i < n = (let h = found.0 in omega arith) in
        let low : i < 2 ^ 32 = omega (arith, below, few) in
        let same : above start i ≡ addr = ap (λ o. unwrap_or o 0) (sym e) in
        let at : offset start addr ≡ i = ap (offset start) (sym same) ∙ forth start i small low in
        let top : addr < 2 ^ 32 = subst (λ k. k < 2 ^ 32) same (let h : above start i < 2 ^ 32 = omega arith in h) in (
          (λ j. lt-ltb addr (2 ^ 32) top j && nat_lt (at j) n) ∙ lt-ltb i n below,
          subst (λ a. (f a).accessible ≡ false) same (shut (f (above start i)) found.1),
        )

-- none is found where there is none
pub none-found : (f : ℕ → Shadow) (start n : ℕ)
    → None ≡ option_map (λ (bad : Bad). bad.addr) (first_bad f start n false)
    → first_bad f start n false ≡ None
none-found f start n e = go (first_bad f start n false) e
  where
    go : (o : Option Bad) → None ≡ option_map (λ (bad : Bad). bad.addr) o → o ≡ None
    go None e = refl
    go (Some bad) e = cc

-- a range made undefined, or known --

fades : (x : Shadow) → x.accessible ≡ true → (let u : Shadow = record { accessible = true; undef = 255 } in u) ≡ faded x
unfolding faded
fades x e = sym (ap (λ b. cond b (record { accessible = true; undef = 255 }) x) e)

knows : (x : Shadow) → x.accessible ≡ true
    → (let u : Shadow = record { accessible = true; undef = 0 } in u) ≡ known_byte x
unfolding known_byte
knows x e = sym (ap (λ b. cond b (record { accessible = true; undef = 0 }) x) e)

pub range-faded : (s : State) (start n : ℕ) → start < 2 ^ 32 → first_bad s.core.shadow start n false ≡ None
    → made_state s start n Undefined ≡ faded_at (is_in start n) s
unfolding made_so changed_in faded_at
range-faded s start n small none =
    let f = s.core.shadow in
    let each : (a : ℕ) → cond (is_in start n a) (record { accessible = true; undef = 255 }) (f a)
    ≡ cond (is_in start n a) (faded (f a)) (f a) =
    λ a. go (f a) (is_in start n a) (open-at f start n small none a) in
    λ i. record s { core = record s.core { shadow = fun_ext each i } }
  where
    go : (x : Shadow) (b : Bool) → (b ≡ true → x.accessible ≡ true)
        → cond b (record { accessible = true; undef = 255 }) x ≡ cond b (faded x) x
    go x true may = fades x (may refl)
    go x false may = refl

pub range-known : (s : State) (start n : ℕ) → start < 2 ^ 32 → first_bad s.core.shadow start n false ≡ None
    → made_state s start n Defined ≡ known_at (is_in start n) s
unfolding made_so changed_in known_at
range-known s start n small none =
    let f = s.core.shadow in
    let each : (a : ℕ) → cond (is_in start n a) (record { accessible = true; undef = 0 }) (f a)
    ≡ cond (is_in start n a) (known_byte (f a)) (f a) =
    λ a. go (f a) (is_in start n a) (open-at f start n small none a) in
    λ i. record s { core = record s.core { shadow = fun_ext each i } }
  where
    go : (x : Shadow) (b : Bool) → (b ≡ true → x.accessible ≡ true)
        → cond b (record { accessible = true; undef = 0 }) x ≡ cond b (known_byte x) x
    go x true may = knows x (may refl)
    go x false may = refl

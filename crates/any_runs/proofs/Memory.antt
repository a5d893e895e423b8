-- Shadows with fewer undefined bits: tests, loads, stores and changes of ranges.
use Rattle.std.proofs.Common.{◌≡◌, ℕ, zero, suc, ◌+◌, ◌/◌, ◌%◌, ◌^◌, ◌==◌, ◌<◌, ◌≤◌, ◌||◌, not, Bool, true, false, cond}
use Rattle.std.proofs.Common.{refl, sym, ap, ◌∙◌, subst, arith, Option, Some, None, nat_lt, nat_le, le-ltb}
use Rattle.std.proofs.Common.{max}
use Rattle.std.specs.Prelude.{unwrap_or}
use Rattle.guest_machine.specs.Calls.{accessible_len, always_moved, moved_from_start}
use Rattle.std.specs.Int.{bit_at}
use Rattle.std.proofs.lemmas.Bool.{or_parts, and_parts, not-false, ltb-true, eqb-true, eq-eqb, false≢true}
use Rattle.std.proofs.lemmas.Nat.{mod_below}
use Rattle.std.proofs.Math.Nat.{zero-div, zero-mod}
use Rattle.shadow_memory.specs.Ranges.{above, offset, is_in, changed_in, window, first_from, byte_of, little_word}
use Rattle.shadow_memory.specs.Shadows.{Shadow, shadow_of, loaded_undef, stored_shadow, made_so, stored_undef}
use Rattle.shadow_memory.specs.Shadows.{address_at, copied_undef}
use Rattle.shadow_memory.specs.Shadows.{first_inaccessible, is_bad, bad_at, first_bad}
use Rattle.shadow_memory.specs.declared.cells.RangeKind.{RangeKind}
use Rattle.shadow_memory.specs.declared.cells.RangeKind.TheVariants.{NoAccess, Undefined, Defined}
use Rattle.any_runs.specs.Sharper.{Within, SharperShadow, ShadowsSharper}
use Rattle.clean_reports.proofs.Memory.{none-at}
use Rattle.clean_reports.proofs.Bits.{words-agree, bytes-of}
use Rattle.any_runs.proofs.Mono.{none-within, zero-bit}

-- fewer bits are bits that agree with none --

pub as-agree : (n u v : ℕ) → Within n u v → (i : ℕ) → i < n → bit_at u i ≡ 0 → bit_at v i ≡ bit_at 0 i
as-agree n u v w i h e = w i h e ∙ sym (zero-bit i)

pub from-agree : (n u v : ℕ) → ((i : ℕ) → i < n → bit_at u i ≡ 0 → bit_at v i ≡ bit_at 0 i) → Within n u v
from-agree n u v w i h e = w i h e ∙ zero-bit i

pub within-self : (n u : ℕ) → Within n u u
within-self n u i h e = e

zero-byte : (i : ℕ) → byte_of 0 i ≡ 0
unfolding byte_of
zero-byte i = ap (λ n. n % 256) (zero-div (256 ^ i)) ∙ zero-mod 256

pub bytes-within : (u v : ℕ) → Within 32 u v → (i : ℕ) → i < 4 → Within 8 (byte_of u i) (byte_of v i)
bytes-within u v w i h =
    from-agree 8 _ _ (subst (λ z. (j : ℕ) → j < 8 → bit_at (byte_of u i) j ≡ 0 → bit_at (byte_of v i) j ≡ bit_at z j)
    (zero-byte i) (bytes-of u v 0 (as-agree 32 u v w) i h))

pub byte-lt : (v i : ℕ) → byte_of v i < 2 ^ 8
unfolding byte_of
byte-lt v i = mod_below (v / 256 ^ i) 256 (omega arith)

-- which bytes may be accessed is the same --

module _ (f g : ℕ → Shadow) (s : ShadowsSharper f g) where
  pub bad-same : (start n : ℕ) → first_inaccessible f start n ≡ first_inaccessible g start n
  unfolding first_inaccessible
  bad-same start n = λ j. address_at start (first_from (λ i. not ((s (above start i)).accessible j)) 0 n)

  -- as many bytes are moved
  pub moved-same : (start n : ℕ) → moved_from_start f start n ≡ moved_from_start g start n
  unfolding accessible_len
  moved-same start n = λ j. cond (nat_le n always_moved) n
      (max always_moved (unwrap_or (first_from (λ i. not ((s (above start i)).accessible j)) 0 n) n))

  -- the shadows with no undefined bits
  abbrev bare : (ℕ → Shadow) → ℕ → Shadow
  bare h a = record { accessible = (h a).accessible; undef = 0 }

  bare-bad : (h : ℕ → Shadow) (start n : ℕ) → first_bad h start n false ≡ first_bad (bare h) start n false
  unfolding first_bad
  bare-bad h start n = go (first_from (λ i. is_bad false (h (above start i))) 0 n)
    where
      go : (o : Option ℕ) → bad_at h start o ≡ bad_at (bare h) start o
      go None = refl
      go (Some i) = refl

  pub unaddressable-same : (start n : ℕ) → first_bad f start n false ≡ first_bad g start n false
  unaddressable-same start n =
      bare-bad f start n
      ∙ (λ j. first_bad (λ a. record { accessible = (s a).accessible j; undef = 0 }) start n false)
      ∙ sym (bare-bad g start n)

-- a search that finds nothing, and one that finds nothing else --

first-none : (p : ℕ → Bool) (i n : ℕ) → ((k : ℕ) → k < n → p (i + k) ≡ false) → first_from p i n ≡ None
unfolding first_from
first-none p i zero each = refl
first-none p i (suc n) each =
    let here : p i ≡ false = (let same : i + 0 ≡ i = omega arith in ap p (sym same) ∙ each 0 (omega arith)) in
    ap (λ b. cond b (Some i) (first_from p (suc i) n)) here
    ∙ first-none p (suc i) n (λ k h.
    let same : suc i + k ≡ i + suc k = omega arith in ap p same ∙ each (suc k) (omega (arith, h)))

pub no-bad : (shadows : ℕ → Shadow) (start : ℕ) (o : Option ℕ) → bad_at shadows start o ≡ None → o ≡ None
no-bad shadows start None e = refl
no-bad shadows start (Some i) e = cc

good-stays : (x y : Shadow) → SharperShadow x y → is_bad true x ≡ false → is_bad true y ≡ false
good-stays x y s e =
    let parts = or_parts (not x.accessible) (not (x.undef == 0)) e in
    let none = none-within 8 x.undef y.undef s.other s.undef (eqb-true x.undef 0 (not-false (x.undef == 0) parts.1)) in
    λ j. (ap not (sym s.accessible) ∙ parts.0) j || not (eq-eqb y.undef 0 none j)

pub first-at : (p : ℕ → Bool) (n : ℕ) → ((k : ℕ) → k < n → p k ≡ false) → first_from p 0 n ≡ None
first-at p n each =
    first-none p 0 n (λ k h. let same : k ≡ 0 + k = omega arith in subst (λ j. p j ≡ false) same (each k h))

pub still-good : (f g : ℕ → Shadow) → ShadowsSharper f g → (start n : ℕ) → first_bad f start n true ≡ None
    → first_bad g start n true ≡ None
unfolding first_bad
still-good f g s start n e =
    let found = no-bad f start _ e in
    ap (bad_at g start)
    (first-at (λ i. is_bad true (g (above start i))) n
    (λ k h. good-stays (f (above start k)) (g (above start k)) (s (above start k))
    (none-at (λ i. is_bad true (f (above start i))) n found k h)))

-- changes of a range --

inside : (start n a : ℕ) → is_in start n a ≡ true → offset start a < n
inside start n a e = ltb-true (offset start a) n (and_parts (nat_lt a (2 ^ 32)) (nat_lt (offset start a) n) e).1

pub changed-sharper : (f g : ℕ → Shadow) → ShadowsSharper f g → (start n : ℕ) (change other : ℕ → Shadow → Shadow)
    → ((i a : ℕ) → i < n → SharperShadow (change i (f a)) (other i (g a)))
    → ShadowsSharper (changed_in f start n change) (changed_in g start n other)
unfolding changed_in
changed-sharper f g s start n change other each a = go (is_in start n a) (inside start n a)
  where
    go : (b : Bool) → (b ≡ true → offset start a < n)
        → SharperShadow (cond b (change (offset start a) (f a)) (f a)) (cond b (other (offset start a) (g a)) (g a))
    go true in-range = each (offset start a) a (in-range refl)
    go false in-range = s a

kind-sharper : (kind : RangeKind) → SharperShadow (shadow_of kind) (shadow_of kind)
kind-sharper NoAccess = record { accessible = refl; undef = λ i h e. e; one = omega arith; other = omega arith }
kind-sharper Undefined = record { accessible = refl; undef = λ i h e. e; one = omega arith; other = omega arith }
kind-sharper Defined = record { accessible = refl; undef = λ i h e. e; one = omega arith; other = omega arith }

pub made-sharper : (f g : ℕ → Shadow) → ShadowsSharper f g → (start n : ℕ) (kind : RangeKind)
    → ShadowsSharper (made_so f start n kind) (made_so g start n kind)
unfolding made_so
made-sharper f g s start n kind =
    changed-sharper f g s start n (λ i x. shadow_of kind) (λ i x. shadow_of kind) (λ i a h. kind-sharper kind)

store-sharper : (x y : Shadow) → SharperShadow x y → (u v : ℕ) → Within 8 u v → u < 2 ^ 8 → v < 2 ^ 8
    → SharperShadow (stored_shadow u x) (stored_shadow v y)
store-sharper x y s u v w small-u small-v = go x.accessible y.accessible s.accessible
  where
    go : (b d : Bool) → b ≡ d → SharperShadow (cond b (record { accessible = true; undef = u }) x)
        (cond d (record { accessible = true; undef = v }) y)
    go true true e = record { accessible = refl; undef = w; one = small-u; other = small-v }
    go false false e = s
    go true false e = absurd (false≢true (sym e))
    go false true e = absurd (false≢true e)

pub stored-sharper : (f g : ℕ → Shadow) → ShadowsSharper f g → (start n u v : ℕ)
    → ((i : ℕ) → i < n → Within 8 (byte_of u i) (byte_of v i))
    → ShadowsSharper (stored_undef f start n u) (stored_undef g start n v)
unfolding stored_undef
stored-sharper f g s start n u v each =
    changed-sharper f g s start n (λ i x. stored_shadow (byte_of u i) x) (λ i x. stored_shadow (byte_of v i) x)
    (λ i a h. store-sharper (f a) (g a) (s a) (byte_of u i) (byte_of v i) (each i h) (byte-lt u i) (byte-lt v i))

-- loads --

loaded-lt : (b : Bool) (n : ℕ) → n < 2 ^ 8 → cond b n 0 < 2 ^ 8
loaded-lt true n h = h
loaded-lt false n h = omega arith

load-within : (x y : Shadow) → SharperShadow x y → Within 8 (loaded_undef x) (loaded_undef y)
load-within x y s = go x.accessible y.accessible s.accessible
  where
    go : (b d : Bool) → b ≡ d → Within 8 (cond b x.undef 0) (cond d y.undef 0)
    go true true e = s.undef
    go false false e = λ i h e. e
    go true false e = absurd (false≢true (sym e))
    go false true e = absurd (false≢true e)

pub copied-sharper : (f g : ℕ → Shadow) → ShadowsSharper f g → (from to n : ℕ)
    → ShadowsSharper (copied_undef f from to n) (copied_undef g from to n)
unfolding copied_undef
copied-sharper f g s from to n =
    changed-sharper f g s to n (λ i x. stored_shadow (loaded_undef (f (above from i))) x)
    (λ i x. stored_shadow (loaded_undef (g (above from i))) x)
    (λ i a h. store-sharper (f a) (g a) (s a) _ _ (load-within (f (above from i)) (g (above from i)) (s (above from i)))
    (loaded-lt (f (above from i)).accessible _ (s (above from i)).one)
    (loaded-lt (g (above from i)).accessible _ (s (above from i)).other))

-- the undefined bits that a load takes
abbrev pub undef-window : (ℕ → Shadow) → ℕ → ℕ → ℕ → ℕ
undef-window f start n = window (λ a. loaded_undef (f a)) start n

pub window-lt8 : (f : ℕ → Shadow) → ((a : ℕ) → (f a).undef < 2 ^ 8) → (start n i : ℕ) → undef-window f start n i < 2 ^ 8
unfolding window
window-lt8 f small start n i =
    loaded-lt (nat_lt i n) (loaded_undef (f (above start i)))
    (loaded-lt (f (above start i)).accessible _ (small (above start i)))

pub window-past : (f : ℕ → Shadow) (start n i : ℕ) → n ≤ i → undef-window f start n i ≡ 0
unfolding window
window-past f start n i past = ap (λ b. cond b (loaded_undef (f (above start i))) 0) (le-ltb i n past)

pub taken-within : (f g : ℕ → Shadow) → ShadowsSharper f g → (start n : ℕ)
    → Within 32 (little_word (undef-window f start n)) (little_word (undef-window g start n))
unfolding window little_word
taken-within f g s start n =
    from-agree 32 _ _ (words-agree (undef-window f start n) (undef-window g start n) (λ i. 0)
    (window-lt8 f (λ a. (s a).one) start n) (window-lt8 g (λ a. (s a).other) start n) (λ i. omega arith)
    (λ i h. as-agree 8 _ _ (each i)))
  where
    each : (i : ℕ) → Within 8 (undef-window f start n i) (undef-window g start n i)
    each i = go (nat_lt i n)
      where
        go : (b : Bool) → Within 8 (cond b (loaded_undef (f (above start i))) 0)
            (cond b (loaded_undef (g (above start i))) 0)
        go true = load-within (f (above start i)) (g (above start i)) (s (above start i))
        go false = λ j h e. e

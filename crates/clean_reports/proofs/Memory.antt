-- Memories that agree, and loads, stores and changes of ranges on them.
use Rattle.std.proofs.Common.{◌≡◌, ℕ, zero, suc, ◌+◌, ◌-◌, ◌/◌, ◌^◌, ◌==◌, ◌<◌, ◌≤◌, not, Bool, true, false, cond}
use Rattle.std.proofs.Common.{refl, sym, ap, ◌∙◌, subst, arith, Option, Some, None, nat_lt, le-ltb}
use Rattle.std.specs.Int.{bit_at}
use Rattle.std.proofs.lemmas.Bool.{or_parts, and_parts, not-false, ltb-true, eqb-true, false≢true}
use Rattle.std.proofs.lemmas.Nat.Bits.{bit_at_ones}
use Rattle.std.proofs.lemmas.Nat.{mod_below}
use Rattle.definedness.specs.Law.{AgreeWhereDefined}
use Rattle.shadow_memory.specs.Ranges.{above, offset, is_in, changed_in, window, written, first_from, byte_of}
use Rattle.shadow_memory.specs.Ranges.{little_word}
use Rattle.shadow_memory.specs.Shadows.{Shadow, shadow_of, loaded_undef, stored_shadow, made_so, stored_undef}
use Rattle.shadow_memory.specs.Shadows.{address_at}
use Rattle.shadow_memory.specs.Shadows.{first_inaccessible, is_bad, bad_at, first_bad}
use Rattle.shadow_memory.specs.declared.cells.RangeKind.{RangeKind}
use Rattle.shadow_memory.specs.declared.cells.RangeKind.TheVariants.{NoAccess, Undefined, Defined}
use Rattle.clean_reports.specs.Agreement.{AreBytes, BytesAgree, MemoriesAgree}
use Rattle.clean_reports.proofs.Bits.{Under, words-agree, same-byte}

-- a search that finds nothing --

pub none-first : (p : ℕ → Bool) (i n : ℕ) → first_from p i n ≡ None → (k : ℕ) → k < n → p (i + k) ≡ false
unfolding first_from
none-first p i zero e k h = absurd (omega (arith, h))
none-first p i (suc n) e k h = go (p i) refl (none-first p (suc i) n) e k h
  where
    go : (b : Bool) → p i ≡ b → (first_from p (suc i) n ≡ None → (k : ℕ) → k < n → p (suc i + k) ≡ false)
        → cond b (Some i) (first_from p (suc i) n) ≡ None → (k : ℕ) → k < suc n → p (i + k) ≡ false
    go true q rest e k h = cc
    go false q rest e zero h = let same : i + 0 ≡ i = omega arith in ap p same ∙ q
    go false q rest e (suc k) h =
        let same : i + suc k ≡ suc i + k = omega arith in ap p same ∙ rest e k (omega (arith, h))

pub none-at : (p : ℕ → Bool) (n : ℕ) → first_from p 0 n ≡ None → (k : ℕ) → k < n → p k ≡ false
none-at p n e k h = let same : 0 + k ≡ k = omega arith in subst (λ j. p j ≡ false) same (none-first p 0 n e k h)

no-address : (start : ℕ) (o : Option ℕ) → address_at start o ≡ None → o ≡ None
no-address start None e = refl
no-address start (Some i) e = cc

no-bad : (shadows : ℕ → Shadow) (start : ℕ) (o : Option ℕ) → bad_at shadows start o ≡ None → o ≡ None
no-bad shadows start None e = refl
no-bad shadows start (Some i) e = cc

pub accessible-from : (shadows : ℕ → Shadow) (start n : ℕ) → first_inaccessible shadows start n ≡ None → (i : ℕ) → i < n
    → (shadows (above start i)).accessible ≡ true
unfolding first_inaccessible
accessible-from shadows start n e i h =
    not-false (shadows (above start i)).accessible
    (none-at (λ i. not (shadows (above start i)).accessible) n (no-address start _ e) i h)

-- a byte that may be accessed and is defined
abbrev pub IsGood : Shadow → Type 0
IsGood s = (s.accessible ≡ true) × (s.undef ≡ 0)

pub not-bad : (s : Shadow) → is_bad true s ≡ false → IsGood s
not-bad s e =
    let parts = or_parts (not s.accessible) (not (s.undef == 0)) e in
    (not-false s.accessible parts.0, eqb-true s.undef 0 (not-false (s.undef == 0) parts.1))

pub good-from : (shadows : ℕ → Shadow) (start n : ℕ) → first_bad shadows start n true ≡ None → (i : ℕ) → i < n
    → IsGood (shadows (above start i))
unfolding first_bad
good-from shadows start n e i h =
    not-bad (shadows (above start i))
    (none-at (λ i. is_bad true (shadows (above start i))) n (no-bad shadows start _ e) i h)

-- changes of a range --

inside : (start n a : ℕ) → is_in start n a ≡ true → offset start a < n
inside start n a e = ltb-true (offset start a) n (and_parts (nat_lt a (2 ^ 32)) (nat_lt (offset start a) n) e).1

pub written-bytes : (f : ℕ → ℕ) (start n : ℕ) (made : ℕ → ℕ) → AreBytes f → AreBytes made
    → AreBytes (written f start n made)
unfolding written changed_in
written-bytes f start n made small smade a = go (is_in start n a)
  where
    go : (b : Bool) → cond b (made (offset start a)) (f a) < 2 ^ 8
    go true = smade (offset start a)
    go false = small a

pub changed-bits : (shadows : ℕ → Shadow) (start n : ℕ) (change : ℕ → Shadow → Shadow)
    → ((a : ℕ) → (shadows a).undef < 2 ^ 8) → ((i a : ℕ) → (change i (shadows a)).undef < 2 ^ 8) → (a : ℕ)
    → (changed_in shadows start n change a).undef < 2 ^ 8
unfolding changed_in
changed-bits shadows start n change old new a = go (is_in start n a)
  where
    go : (b : Bool) → (cond b (change (offset start a) (shadows a)) (shadows a)).undef < 2 ^ 8
    go true = new (offset start a) a
    go false = old a

-- bytes and shadows of a range change together
pub range-agrees : (shadows : ℕ → Shadow) (f g : ℕ → ℕ) → MemoriesAgree shadows f g → (start n : ℕ)
    → (change : ℕ → Shadow → Shadow) (made other : ℕ → ℕ)
    → ((i a : ℕ) → i < n → BytesAgree (change i (shadows a)) (made i) (other i))
    → ((i a : ℕ) → (change i (shadows a)).undef < 2 ^ 8) → AreBytes made → AreBytes other
    → MemoriesAgree (changed_in shadows start n change) (written f start n made) (written g start n other)
unfolding changed_in written
range-agrees shadows f g m start n change made other new bits smade sother = record {
  each = λ a. go a (is_in start n a) refl;
  bits = changed-bits shadows start n change m.bits bits;
  one = written-bytes f start n made m.one smade;
  other = written-bytes g start n other m.other sother;
}
  where
    go : (a : ℕ) (b : Bool) → is_in start n a ≡ b
        → BytesAgree (cond b (change (offset start a) (shadows a)) (shadows a)) (cond b (made (offset start a)) (f a))
        (cond b (other (offset start a)) (g a))
    go a true e = new (offset start a) a (inside start n a e)
    go a false e = m.each a

-- only shadows change
pub shadows-agree : (shadows : ℕ → Shadow) (f g : ℕ → ℕ) → MemoriesAgree shadows f g → (start n : ℕ)
    → (change : ℕ → Shadow → Shadow) → ((i a : ℕ) → BytesAgree (change i (shadows a)) (f a) (g a))
    → ((i a : ℕ) → (change i (shadows a)).undef < 2 ^ 8) → MemoriesAgree (changed_in shadows start n change) f g
unfolding changed_in
shadows-agree shadows f g m start n change new bits = record {
  each = λ a. go a (is_in start n a);
  bits = changed-bits shadows start n change m.bits bits;
  one = m.one;
  other = m.other;
}
  where
    go : (a : ℕ) (b : Bool)
        → BytesAgree (cond b (change (offset start a) (shadows a)) (shadows a)) (f a) (g a)
    go a true = new (offset start a) a
    go a false = m.each a

-- a range becomes inaccessible or undefined --

all-set : (i : ℕ) → i < 8 → bit_at 255 i ≡ 0 → ⊥
all-set i h e = let one : bit_at (2 ^ 8 - 1) i ≡ 1 = bit_at_ones 8 i h in cc

made-loose : (kind : RangeKind) → (kind ≡ Defined → ⊥) → (a b : ℕ) → BytesAgree (shadow_of kind) a b
made-loose NoAccess other a b opened i h clear = absurd (false≢true opened)
made-loose Undefined other a b opened i h clear = absurd (all-set i h clear)
made-loose Defined other a b opened i h clear = absurd (other refl)

pub kind-bits : (kind : RangeKind) → (shadow_of kind).undef < 2 ^ 8
kind-bits NoAccess = omega arith
kind-bits Undefined = omega arith
kind-bits Defined = omega arith

pub made-agrees : (shadows : ℕ → Shadow) (f g : ℕ → ℕ) → MemoriesAgree shadows f g → (start n : ℕ) (kind : RangeKind)
    → (kind ≡ Defined → ⊥) → MemoriesAgree (made_so shadows start n kind) f g
unfolding made_so
made-agrees shadows f g m start n kind other =
    shadows-agree shadows f g m start n (λ i s. shadow_of kind) (λ i a. made-loose kind other (f a) (g a))
    (λ i a. kind-bits kind)

-- or gets the same bytes in both memories, and any kind
pub filled-agrees : (shadows : ℕ → Shadow) (f g : ℕ → ℕ) → MemoriesAgree shadows f g → (start n : ℕ) (kind : RangeKind)
    (made : ℕ → ℕ) → AreBytes made
    → MemoriesAgree (made_so shadows start n kind) (written f start n made) (written g start n made)
unfolding made_so
filled-agrees shadows f g m start n kind made small =
    range-agrees shadows f g m start n (λ i s. shadow_of kind) made made (λ i a h opened j l clear. refl)
    (λ i a. kind-bits kind) small small

-- stores --

pub stored-bytes : (b : Bool) (undef : ℕ) (s : Shadow) (v w : ℕ) → s.accessible ≡ b → Under undef v w
    → BytesAgree (cond b (record { accessible = true; undef = undef }) s) v w
stored-bytes true undef s v w e agree opened = agree
stored-bytes false undef s v w e agree opened = absurd (false≢true (sym e ∙ opened))

pub stored-bits : (b : Bool) (undef : ℕ) (s : Shadow) → undef < 2 ^ 8 → s.undef < 2 ^ 8
    → (cond b (record { accessible = true; undef = undef }) s).undef < 2 ^ 8
stored-bits true undef s small old = small
stored-bits false undef s small old = old

pub byte-lt : (v i : ℕ) → byte_of v i < 2 ^ 8
unfolding byte_of
byte-lt v i = mod_below (v / 256 ^ i) 256 (omega arith)

-- a store of bytes that agree, with their undefined bits
pub stored-agrees : (shadows : ℕ → Shadow) (f g : ℕ → ℕ) → MemoriesAgree shadows f g → (start n undef : ℕ)
    (made other : ℕ → ℕ) → ((i : ℕ) → i < n → Under (byte_of undef i) (made i) (other i)) → AreBytes made
    → AreBytes other
    → MemoriesAgree (stored_undef shadows start n undef) (written f start n made) (written g start n other)
unfolding stored_undef
stored-agrees shadows f g m start n undef made other agree smade sother =
    range-agrees shadows f g m start n (λ i s. stored_shadow (byte_of undef i) s) made other
    (λ i a h. stored-bytes (shadows a).accessible (byte_of undef i) (shadows a) (made i) (other i) refl (agree i h))
    (λ i a. stored-bits (shadows a).accessible (byte_of undef i) (shadows a) (byte-lt undef i) (m.bits a)) smade sother

-- loads --

pub loaded-lt : (b : Bool) (n : ℕ) → n < 2 ^ 8 → cond b n 0 < 2 ^ 8
loaded-lt true n h = h
loaded-lt false n h = omega arith

pub window-bytes : (f : ℕ → ℕ) (start n : ℕ) → AreBytes f → AreBytes (window f start n)
unfolding window
window-bytes f start n small i = loaded-lt (nat_lt i n) (f (above start i)) (small (above start i))

pub window-past : (f : ℕ → ℕ) (start n i : ℕ) → n ≤ i → window f start n i ≡ 0
unfolding window
window-past f start n i past = ap (λ b. cond b (f (above start i)) 0) (le-ltb i n past)

window-undef : (shadows : ℕ → Shadow) (start n : ℕ) → ((a : ℕ) → (shadows a).undef < 2 ^ 8)
    → AreBytes (window (λ a. loaded_undef (shadows a)) start n)
window-undef shadows start n small =
    window-bytes (λ a. loaded_undef (shadows a)) start n
    (λ a. loaded-lt (shadows a).accessible (shadows a).undef (small a))

-- bytes of an accessible range agree where the loaded undefined bits are clear
pub taken-under : (shadows : ℕ → Shadow) (f g : ℕ → ℕ) → MemoriesAgree shadows f g → (start n : ℕ)
    → ((i : ℕ) → i < n → (shadows (above start i)).accessible ≡ true) → (i : ℕ)
    → Under (window (λ a. loaded_undef (shadows a)) start n i) (window f start n i) (window g start n i)
unfolding window
taken-under shadows f g m start n opened i = go (nat_lt i n) refl
  where
    go : (b : Bool) → nat_lt i n ≡ b
        → Under (cond b (loaded_undef (shadows (above start i))) 0) (cond b (f (above start i)) 0)
        (cond b (g (above start i)) 0)
    go false e j h clear = refl
    go true e j h clear =
        let there = opened i (ltb-true i n e) in
        m.each (above start i) there j h
        (ap (λ b. bit_at (cond b (shadows (above start i)).undef 0) j) (sym there) ∙ clear)

pub numbers-agree : (shadows : ℕ → Shadow) (f g : ℕ → ℕ) → MemoriesAgree shadows f g → (start n : ℕ)
    → ((i : ℕ) → i < n → (shadows (above start i)).accessible ≡ true)
    → AgreeWhereDefined (little_word (window (λ a. loaded_undef (shadows a)) start n)) (little_word (window f start n))
    (little_word (window g start n))
numbers-agree shadows f g m start n opened =
    words-agree (window (λ a. loaded_undef (shadows a)) start n) (window f start n) (window g start n)
    (window-undef shadows start n m.bits) (window-bytes f start n m.one) (window-bytes g start n m.other)
    (λ i h. taken-under shadows f g m start n opened i)

-- a good byte is the same in both memories
pub good-byte : (shadows : ℕ → Shadow) (f g : ℕ → ℕ) → MemoriesAgree shadows f g → (a : ℕ) → IsGood (shadows a)
    → f a ≡ g a
good-byte shadows f g m a good = same-byte (shadows a).undef (f a) (g a) good.1 (m.one a) (m.other a) (m.each a good.0)

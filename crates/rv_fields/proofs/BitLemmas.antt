-- What bits of a word under one mask say of its bits under another.
use Rattle.std.proofs.Common.{◌≡◌, ℕ, ◌<◌, ◌^◌, Bool, true, false, cond, List, [], ◌∷◌, bit_and, bit_or, min, max}
use Rattle.std.proofs.Common.{sym, ◌∙◌, ap, ap₂, refl, arith}
use Rattle.std.specs.Prelude.{◌==◌}
use Rattle.std.specs.Int.{bit_at}
use Rattle.std.specs.List.{list_any}
use Rattle.std.proofs.Math.Nat.{mod-eq_of_lt}
use Rattle.std.proofs.lemmas.Bool.{eq-eqb, ne_eqb}
use Rattle.std.proofs.lemmas.Nat.{and_assoc, and_comm, and_mask}
use Rattle.std.proofs.lemmas.Nat.Bits.{bit_at_and, bit_at_or, same_from_bits}

-- what the bits a of a word say of its bits b
pub shared_bits : (word a b x y : ℕ) → bit_and word a ≡ x → bit_and word b ≡ y → bit_and x b ≡ bit_and y a
shared_bits word a b x y at_a at_b =
    ap (λ n. bit_and n b) (sym at_a)
    ∙ and_assoc b word a
    ∙ ap (bit_and word) (and_comm a b)
    ∙ sym (and_assoc a word b)
    ∙ ap (λ n. bit_and n a) at_b

-- the bits of a mask say those of a part of it
pub narrow_bits : (word mask m v : ℕ) → bit_and mask m ≡ m → bit_and word mask ≡ v → bit_and word m ≡ bit_and v m
narrow_bits word mask m v within has =
    ap (bit_and word) (sym within) ∙ sym (and_assoc m word mask) ∙ ap (λ n. bit_and n m) has

-- all bits of a 32-bit word are the word
pub whole_word : (word : ℕ) → word < 2 ^ 32 → bit_and word 0xFFFFFFFF ≡ word
whole_word word small = and_mask word 32 ∙ mod-eq_of_lt small

-- AND distributes over OR, at one bit
min_max : (a b c : ℕ) → min a (max b c) ≡ max (min a b) (min a c)
min_max a b c = grind arith

-- and so at all bits
and_or : (word a b : ℕ) → bit_and word (bit_or a b) ≡ bit_or (bit_and word a) (bit_and word b)
and_or word a b =
    same_from_bits (bit_and word (bit_or a b)) (bit_or (bit_and word a) (bit_and word b))
    (λ i.
    bit_at_and word (bit_or a b) i
    ∙ ap (min (bit_at word i)) (bit_at_or a b i)
    ∙ min_max (bit_at word i) (bit_at a i) (bit_at b i)
    ∙ ap₂ max (sym (bit_at_and word a i)) (sym (bit_at_and word b i))
    ∙ sym (bit_at_or (bit_and word a) (bit_and word b) i))

-- what the bits a and b of a word say of both
pub join : (word a b u v : ℕ) → bit_and word a ≡ u → bit_and word b ≡ v → bit_and word (bit_or a b) ≡ bit_or u v
join word a b u v at_a at_b = and_or word a b ∙ ap₂ bit_or at_a at_b

-- ---- words that two rows can't both have

-- some bit of both masks has two values
abbrev pub differ : ℕ → ℕ → ℕ → ℕ → Bool
differ a x b y = cond (bit_and x b == bit_and y a) false true

-- no word has both values of that bit
pub differ-apart : (a x b y : ℕ) → differ a x b y ≡ true → (word : ℕ) → bit_and word a ≡ x → bit_and word b ≡ y → ⊥
differ-apart a x b y apart word has also =
    let clash = rw (eq-eqb (bit_and x b) (bit_and y a) (shared_bits word a b x y has also)) at apart in
    cc

-- ---- words outside of a list of values

-- the number is none of the values
abbrev pub Avoids : ℕ → List ℕ → Type 0
Avoids n [] = Unit {0}
Avoids n (v ∷ vs) = (n ≡ v → ⊥) × Avoids n vs

-- as a test
pub list_any-Avoids : (n : ℕ) (values : List ℕ) → Avoids n values → list_any (λ v. n == v) values ≡ false
list_any-Avoids n [] avoids = refl
list_any-Avoids n (v ∷ vs) avoids = rw (ne_eqb n v avoids.0) (list_any-Avoids n vs avoids.1)

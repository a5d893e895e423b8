-- A load takes no more of cells than it says.
use Rattle.std.proofs.Common.{◌≡◌, ℕ, None, refl, subst, sym, lit<, inl, inr, ◌<◌, ◌∙◌, if◌then◌else◌, nat_lt}
use Rattle.shadow_memory.specs.Marks.{marked, mark_of}
use Rattle.shadow_memory.specs.Changes.{IsWidth}
use Rattle.shadow_memory.specs.Loads.{loaded_at}
use Rattle.shadow_memory.specs.Ranges.{first_from, little_word}
use Rattle.shadow_memory.specs.declared.cells.Cell.{Cell}
use Rattle.shadow_memory.specs.declared.cells.Loaded.{Loaded}
use Rattle.shadow_memory.specs.declared.cells.RangeKind.TheVariants.{Defined}

by-width : (P : ℕ → Type 0) → P 1 → P 2 → P 4 → (n : ℕ) → IsWidth n → P n
by-width P one two four n (inl e) = subst P (sym e) one
by-width P one two four n (inr (inl e)) = subst P (sym e) two
by-width P one two four n (inr (inr e)) = subst P (sym e) four

Alike : (ℕ → Cell) → (ℕ → Cell) → ℕ → ℕ → Type 0
Alike f g addr n = ((i : ℕ) → i < n → f i ≡ g i) → loaded_at f addr n ≡ loaded_at g addr n

alike-one : (f g : ℕ → Cell) (addr : ℕ) → Alike f g addr 1
unfolding Alike loaded_at little_word first_from
alike-one f g addr h = let a : f 0 ≡ g 0 = h 0 (lit< tt) in rw a refl

alike-two : (f g : ℕ → Cell) (addr : ℕ) → Alike f g addr 2
unfolding Alike loaded_at little_word first_from
alike-two f g addr h = rw (h 0 (lit< tt), h 1 (lit< tt)) refl

alike-four : (f g : ℕ → Cell) (addr : ℕ) → Alike f g addr 4
unfolding Alike loaded_at little_word first_from
alike-four f g addr h = rw (h 0 (lit< tt), h 1 (lit< tt), h 2 (lit< tt), h 3 (lit< tt)) refl

pub same-load : (f g : ℕ → Cell) (addr n : ℕ) → IsWidth n → ((i : ℕ) → i < n → f i ≡ g i)
    → loaded_at f addr n ≡ loaded_at g addr n
unfolding Alike
same-load f g addr n width =
    by-width (Alike f g addr) (alike-one f g addr) (alike-two f g addr) (alike-four f g addr) n width

-- a load of defined bytes
all-defined : (ℕ → ℕ) → ℕ → Loaded
all-defined bytes n = record { value = little_word (λ i. if nat_lt i n then bytes i else 0); undef = 0; bad = None }

defined-one : (bytes : ℕ → ℕ) (addr : ℕ)
    → all-defined bytes 1 ≡ loaded_at (λ i. marked (bytes i) (mark_of Defined)) addr 1
unfolding all-defined loaded_at little_word first_from
defined-one bytes addr = refl

defined-two : (bytes : ℕ → ℕ) (addr : ℕ)
    → all-defined bytes 2 ≡ loaded_at (λ i. marked (bytes i) (mark_of Defined)) addr 2
unfolding all-defined loaded_at little_word first_from
defined-two bytes addr = refl

defined-four : (bytes : ℕ → ℕ) (addr : ℕ)
    → all-defined bytes 4 ≡ loaded_at (λ i. marked (bytes i) (mark_of Defined)) addr 4
unfolding all-defined loaded_at little_word first_from
defined-four bytes addr = refl

-- if all are accessible and defined, only the bytes are read
pub defined-load : (f : ℕ → Cell) (bytes : ℕ → ℕ) (addr n : ℕ) → IsWidth n
    → ((i : ℕ) → i < n → f i ≡ marked (bytes i) (mark_of Defined))
    → record { value = little_word (λ i. if nat_lt i n then bytes i else 0); undef = 0; bad = None }
    ≡ loaded_at f addr n
unfolding all-defined
defined-load f bytes addr n width h =
    by-width (λ n. all-defined bytes n ≡ loaded_at (λ i. marked (bytes i) (mark_of Defined)) addr n)
    (defined-one bytes addr) (defined-two bytes addr) (defined-four bytes addr) n width
    ∙ sym (same-load f (λ i. marked (bytes i) (mark_of Defined)) addr n width h)

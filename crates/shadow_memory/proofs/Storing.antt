-- A word stored in one page is a range of stored bytes.
use Rattle.std.proofs.Common.{◌≡◌, ℕ, List, length, take, slice_index, ap, sym, ◌∙◌, ◌+◌, ◌/◌, ◌%◌, ◌^◌, ◌<◌, ◌≤◌}
use Rattle.std.proofs.Common.{true, not, None, inl, inr, if◌then◌else◌, arith}
use Rattle.std.proofs.lemmas.Bool.{cases_eq}
use Rattle.std.proofs.lemmas.List.{get_or-take, length-take-le}
use Rattle.shadow_memory.specs.Places.{changed_from}
use Rattle.shadow_memory.specs.Changes.{received, stored, taken_cell, IsWidth, SomeFront}
use Rattle.shadow_memory.specs.Marks.{marked, mark_of}
use Rattle.shadow_memory.specs.Memories.{cells_of, shadows_in}
use Rattle.shadow_memory.specs.Ranges.{above, byte_of, changed_in}
use Rattle.shadow_memory.specs.Shadows.{address_at, first_inaccessible}
use Rattle.shadow_memory.specs.declared.cells.Cell.{Cell}
use Rattle.shadow_memory.specs.declared.cells.RangeKind.TheVariants.{Undefined}
use Rattle.shadow_memory.specs.declared.memory.Memory.{Memory}
use Rattle.definedness.specs.declared.Bits.{Bits}
use Rattle.shadow_memory.proofs.Growing.{page-more, range-empty}
use Rattle.shadow_memory.proofs.Searching.{first_from-none}
use Rattle.shadow_memory.proofs.Seen.{zero-byte}

same-stored : (x : Cell) (a b p q : ℕ) → a ≡ b → p ≡ q
    → ◌≡◌ {A = Cell} (record { byte = a; accessible = x.accessible; undef = if x.accessible then p else x.undef })
    (record { byte = b; accessible = x.accessible; undef = if x.accessible then q else x.undef })
same-stored x a b p q e f =
    λ i. record { byte = e i; accessible = x.accessible; undef = if x.accessible then f i else x.undef }

-- bytes stored alike, with these bits undefined
alike-stored : List ℕ → ℕ → ℕ → Cell → Cell
alike-stored bytes undef i cell = record {
  byte = slice_index bytes i;
  accessible = cell.accessible;
  undef = if cell.accessible
      then undef else cell.undef;
}

stored-alike : (old new : ℕ → Cell) (addr n undef : ℕ) (bits : Bits) (bytes : List ℕ) → addr < 2 ^ 32
    → addr % 4096 + n ≤ 4096
    → n ≤ 4 → length bytes ≡ 4
    → ((i : ℕ) → i < 4 → slice_index bytes i ≡ byte_of bits.value i)
    → ((i : ℕ) → i < n → byte_of bits.undef i ≡ undef)
    → new ≡ changed_from old addr (length (take n bytes)) (alike-stored (take n bytes) undef)
    → new ≡ changed_in old addr n (stored bits)
unfolding alike-stored
stored-alike old new addr n undef bits bytes small page few long is alike made =
    let change : ℕ → Cell → Cell = stored bits in
    let part : ℕ → Cell → Cell = alike-stored (take n bytes) undef in
    let whole : length (take n bytes) ≡ n = length-take-le n bytes (omega arith) in
    let here : addr ≡ above addr 0 = omega arith in
    let fits : addr + n ≤ 2 ^ 32 = omega arith in
    let less : 0 + n ≤ 2 ^ 32 = omega arith in
    let from-none : 0 + n ≡ n = omega arith in
    page-more old old new addr 0 n addr change part small here fits less (sym (range-empty old addr change)) (made
    ∙ ap (λ k. changed_from old addr k part) whole) (λ i below x.
    let next : 0 + i ≡ i = omega arith in
    same-stored x _ _ undef _ (get_or-take n bytes i 0 below ∙ is i (omega arith) ∙ ap (byte_of bits.value) (sym next))
    (sym (alike i below) ∙ ap (byte_of bits.undef) (sym next)))
    ∙ ap (λ k. changed_in old addr k change) from-none

pub store-word : (old new : ℕ → Cell) (addr n value : ℕ) (bytes : List ℕ) → addr < 2 ^ 32 → addr % 4096 + n ≤ 4096
    → n ≤ 4 → length bytes ≡ 4
    → ((i : ℕ) → i < 4 → slice_index bytes i ≡ byte_of value i)
    → new ≡ changed_from old addr (length (take n bytes)) (received (slice_index (take n bytes)))
    → new ≡ changed_in old addr n (stored (record { value = value; undef = 0 }))
unfolding alike-stored
store-word old new addr n value bytes small page few long is =
    stored-alike old new addr n 0 (record { value = value; undef = 0 }) bytes small page few long is
    (λ i below. zero-byte i)

pub store-undefined : (old new : ℕ → Cell) (addr n : ℕ) (bits : Bits) (bytes : List ℕ) → addr < 2 ^ 32
    → addr % 4096 + n ≤ 4096
    → n ≤ 4 → length bytes ≡ 4
    → ((i : ℕ) → i < 4 → slice_index bytes i ≡ byte_of bits.value i)
    → ((i : ℕ) → i < n → byte_of bits.undef i ≡ 255)
    → new ≡ changed_from old addr (length (take n bytes))
    (λ i cell. taken_cell (marked (slice_index (take n bytes) i) (mark_of Undefined)) cell)
    → new ≡ changed_in old addr n (stored bits)
unfolding alike-stored
store-undefined old new addr n bits bytes = stored-alike old new addr n 255 bits bytes

-- an access has four bytes at most
pub at-most-four : (n : ℕ) → IsWidth n → n ≤ 4
at-most-four n (inl one) = omega (arith, one)
at-most-four n (inr (inl two)) = omega (arith, two)
at-most-four n (inr (inr four)) = omega (arith, four)

-- of bytes of one page that are all accessible none is the first inaccessible one
pub all-accessible : (memory : Memory) (addr n : ℕ) → addr < 2 ^ 32 → addr % 4096 + n ≤ 4096
    → ((k : ℕ) → addr ≤ k → k < addr + n → (cells_of memory k).accessible ≡ true)
    → first_inaccessible (shadows_in memory) addr n ≡ None
unfolding first_inaccessible shadows_in
all-accessible memory addr n small page all =
    ap (address_at addr) (first_from-none (λ i. not (cells_of memory (above addr i)).accessible) 0 n (λ k below.
    let here : above addr (0 + k) ≡ addr + k = omega arith in
    ap (λ a. not (cells_of memory a).accessible) here ∙ ap not (all (addr + k) (omega arith) (omega arith))))

-- the bytes of a number whose low bits are all set
pub two-full : (number i : ℕ) → number % 65536 ≡ 65535 → i < 2 → byte_of number i ≡ 255
unfolding byte_of
two-full number i is below = elim (cases_eq i 0) [
  | inl here ↦
      let low : number / 1 % 256 ≡ 255 = omega (arith, is) in
      ap (byte_of number) here ∙ low
  | inr more ↦
      let here : i ≡ 1 = omega arith in
      let high : number / 256 % 256 ≡ 255 = omega (arith, is) in
      ap (byte_of number) here ∙ high
]

pub four-full : (number i : ℕ) → number ≡ 4294967295 → i < 4 → byte_of number i ≡ 255
unfolding byte_of
four-full number i is below = ap (λ m. byte_of m i) is ∙ elim (cases_eq i 0) [
  | inl here ↦ ap (byte_of 4294967295) here
  | inr some ↦ elim (cases_eq i 1) [
    | inl here ↦ ap (byte_of 4294967295) here
    | inr more ↦ elim (cases_eq i 2) [
      | inl here ↦ ap (byte_of 4294967295) here
      | inr last ↦ let here : i ≡ 3 = omega arith in ap (byte_of 4294967295) here
    ]
  ]
]

-- where nothing changed, a front of no bytes did
pub empty-front : (old new : ℕ → Cell) (addr n : ℕ) (change : ℕ → Cell → Cell) → IsWidth n → new ≡ old
    → SomeFront n (λ k. new ≡ changed_in old addr k change)
empty-front old new addr n change width same = (0, some n width, same ∙ sym (range-empty old addr change))
  where
    some : (n : ℕ) → IsWidth n → 0 < n
    some n (inl one) = omega (arith, one)
    some n (inr (inl two)) = omega (arith, two)
    some n (inr (inr four)) = omega (arith, four)

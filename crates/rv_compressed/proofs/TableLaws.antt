-- What holds of the table.
use Rattle.std.proofs.Common.{◌≡◌, ◌<◌, ℕ, Bool, true, Some, IfSome, IfNone, All, Any, bit_and, refl}
use Rattle.std.proofs.Common.{List, ◌∙◌, arith, lit<, inl, inr}
use Rattle.std.specs.Prelude.{◌==◌, ◌&&◌, ◌||◌, not}
use Rattle.std.specs.List.{list_any}
use Rattle.std.proofs.lemmas.Bool.{cases_Bool, eq-eqb, eqb-true, and_parts}
use Rattle.std.proofs.lemmas.List.Folds.{Any-from_list_any, list_any-from_Any}
use Rattle.rv_fields.proofs.BitLemmas.{narrow_bits}
use Rattle.rv_fields.proofs.Tables.{reads-Any, reads-All, reads-only}
use Rattle.rv_fields.proofs.Tables.{all_apart-AllPairs, differs, differs-apart}
use Rattle.rv_compressed.specs.Table.{Bits, Row, rows, has, insn_of, expansion}
use Rattle.rv_compressed.specs.Laws.{IsOf, IsOfRow, Excludes, OneRow, LongHalvesHaveNone, ZeroHasNone}
use Rattle.rv_compressed.proofs.TableLemmas.{IsOf-fixed, listing, expansion_other}

-- ---- no half has two rows

-- one of the exceptions of the first row is among the fixed bits of the second
abbrev pub spares : Row → Row → Bool
spares one other =
    list_any (λ e. (bit_and other.mask e.mask == e.mask) && (bit_and other.value e.mask == e.value)) one.exceptions

-- the rows fix some bit to two values, or one of them spares the other
abbrev pub apart : Row → Row → Bool
apart one other = differs listing listing one other || (spares one other || spares other one)

-- a fact of some element that gives another fact gives it of that element
Any_then : {X : Type 0} (P Q : X → Type 0) → ((x : X) → P x → Q x) → (xs : List X) → Any P xs → Any Q xs
Any_then P Q then xs (k, x, within, at, holds) = (k, x, within, at, then x holds)

-- an exception among the fixed bits of a row is one that its halves have
pub has-fixed : (half : ℕ) (other : Row) → IsOf half other → (e : Bits)
    → ((bit_and other.mask e.mask == e.mask) && (bit_and other.value e.mask == e.value)) ≡ true → has half e ≡ true
has-fixed half other of e among =
    let parts = and_parts (bit_and other.mask e.mask == e.mask) (bit_and other.value e.mask == e.value) among in
    eq-eqb (bit_and half e.mask) e.value
    (narrow_bits half other.mask e.mask other.value (eqb-true (bit_and other.mask e.mask) e.mask parts.0)
    (IsOf-fixed half other of)
    ∙ eqb-true (bit_and other.value e.mask) e.value parts.1)

-- a row excludes the rows that it spares
pub spares-Excludes : (one other : Row) → spares one other ≡ true → Excludes one other
spares-Excludes one other spared half of_one of_other =
    let among : Bits → Bool = λ e. (bit_and other.mask e.mask == e.mask) && (bit_and other.value e.mask == e.value) in
    let some : list_any (has half) one.exceptions ≡ true = list_any-from_Any (has half) one.exceptions
    (Any_then (λ e. among e ≡ true) (λ e. has half e ≡ true) (has-fixed half other of_other) one.exceptions
    (Any-from_list_any among one.exceptions spared)) in
    let parts = and_parts (bit_and half one.mask == one.value) (not (list_any (has half) one.exceptions)) of_one in
    let clash = rw some at parts.1 in
    cc

-- rows that are apart exclude each other
pub apart-Excludes : (one other : Row) → apart one other ≡ true → Excludes one other
apart-Excludes one other is_apart =
    elim (cases_Bool (differs listing listing one other)) [
      | inl differ ↦ differs-apart listing listing one other differ
      | inr agree ↦ elim (cases_Bool (spares one other)) [
        | inl spared ↦ spares-Excludes one other spared
        | inr kept ↦ let other_way : spares other one ≡ true = rw (agree, kept) at is_apart in
            λ half of_one of_other. spares-Excludes other one other_way half of_other of_one
      ]
    ]

-- the clause of `one_row`: the test computes on the table
pub rows-OneRow : OneRow
unfolding rows
rows-OneRow = all_apart-AllPairs apart Excludes apart-Excludes rows refl

-- ---- the row that is found, or none

-- the clause `some` of `expand`
pub expansion-Any : (half : ℕ) → IfSome (expansion half) (λ i. Any (IsOfRow half i) rows)
unfolding expansion
expansion-Any half = reads-Any listing rows half

-- the clause `none` of `expand`
pub expansion-All : (half : ℕ) → IfNone (expansion half) (All (λ row. ¬ IsOf half row) rows)
unfolding expansion
expansion-All half = reads-All listing rows half

-- the clause `only` of `expand`
pub expansion-of_row : (half : ℕ) → All (λ row. IsOf half row → expansion half ≡ Some (insn_of row half)) rows
unfolding expansion
expansion-of_row half = reads-only listing rows rows-OneRow half

-- ---- halves that stand for nothing

-- the clause `long` of `halves_without_a_row`
pub expansion_long : LongHalvesHaveNone
expansion_long half long =
    expansion_other half (avoids 0 (lit< tt), (avoids 1 (lit< tt), (avoids 2 (lit< tt), tt)))
  where
    avoids : (quadrant : ℕ) → quadrant < 3 → bit_and half 3 ≡ quadrant → ⊥
    avoids quadrant below at = absurd (omega (arith, long, at))

-- the clause `zero` of `halves_without_a_row`
pub expansion_zero : ZeroHasNone
unfolding rows expansion
expansion_zero = refl

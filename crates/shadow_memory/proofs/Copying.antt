-- Copies to a range that is apart, part by part.
use Rattle.std.proofs.Common.{◌≡◌, ℕ, false, refl, ap, sym, ◌∙◌, ◌+◌, ◌/◌, ◌%◌, ◌^◌, ◌<◌, ◌≤◌, arith}
use Rattle.std.proofs.lemmas.Bool.Decides.{nat_tests}
use Rattle.shadow_memory.specs.Marks.{blank}
use Rattle.shadow_memory.specs.Places.{changed_from}
use Rattle.shadow_memory.specs.Changes.{copied_cell, taken_cell, AreApart}
use Rattle.shadow_memory.specs.Ranges.{above, changed_in, is_in}
use Rattle.shadow_memory.specs.declared.cells.Cell.{Cell}
use Rattle.shadow_memory.specs.declared.cells.RangeKind.{RangeKind}
use Rattle.shadow_memory.proofs.Growing.{range-joins, same-change, same-range}

still-apart : (to i len a : ℕ) → i ≤ len → is_in to len a ≡ false → is_in to i a ≡ false
still-apart to i len a within h = grind (arith, nat_tests)

-- a cell apart from the range is as it was
range-apart : {X : Type 0} (f : ℕ → X) (to i len a : ℕ) (change : ℕ → X → X) → i ≤ len → is_in to len a ≡ false
    → changed_in f to i change a ≡ f a
unfolding changed_in
range-apart f to i len a change within h = rw (still-apart to i len a within h) refl

-- the step of a copy
pub copy-joins : (old now new : ℕ → Cell) (from to d n len : ℕ) → to < 2 ^ 32 → len < 2 ^ 32 → d + n ≤ len
    → AreApart from to len
    → now ≡ changed_in old to d (copied_cell old from)
    → new ≡ changed_in now (above to d) n (copied_cell now (above from d))
    → new ≡ changed_in old to (d + n) (copied_cell old from)
copy-joins old now new from to d n len small long within apart was is =
    let few : d + n ≤ 2 ^ 32 = omega arith in
    let front : d ≤ len = omega arith in
    range-joins old now new to d n (copied_cell old from) (copied_cell now (above from d)) small few was is
    (λ i below x.
    let here : above (above from d) i ≡ above from (d + i) = omega arith in
    let inside : d + i < len = omega arith in
    ap (λ (s : Cell). taken_cell s x) (ap now here ∙ ap (λ (f : ℕ → Cell). f (above from (d + i))) was
    ∙ range-apart old to d len (above from (d + i)) (copied_cell old from) front (apart (d + i) inside)))

-- a copy of zeros of one kind
pub zeros-copied : (old new : ℕ → Cell) (from to n count : ℕ) (kind : RangeKind) → n ≤ count
    → ((i : ℕ) → i < count → old (above from i) ≡ blank kind)
    → new ≡ changed_in old to n (λ i cell. taken_cell (blank kind) cell)
    → new ≡ changed_in old to n (copied_cell old from)
zeros-copied old new from to n count kind few zeros made =
    made ∙ same-range old to n (λ i cell. taken_cell (blank kind) cell) (copied_cell old from)
    (λ i below x. ap (λ (s : Cell). taken_cell s x) (sym (zeros i (omega arith))))

-- and one from a page that is seen
pub seen-copied : (old new seen : ℕ → Cell) (from to n : ℕ) → from < 2 ^ 32 → from % 4096 + n ≤ 4096
    → ((a : ℕ) → a / 4096 ≡ from / 4096 → old a ≡ seen (a % 4096))
    → new ≡ changed_from old to n (λ i cell. taken_cell (seen (from % 4096 + i)) cell)
    → new ≡ changed_from old to n (copied_cell old from)
seen-copied old new seen from to n small page same made =
    made ∙ same-change old to n (λ i cell. taken_cell (seen (from % 4096 + i)) cell) (copied_cell old from)
    (λ i below x.
    let there : above from i / 4096 ≡ from / 4096 = omega arith in
    let place : above from i % 4096 ≡ from % 4096 + i = omega arith in
    ap (λ (s : Cell). taken_cell s x) (sym (same (above from i) there ∙ ap seen place)))

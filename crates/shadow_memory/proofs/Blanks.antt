-- Pages that are zeros of one kind after a change.
use Rattle.std.proofs.Common.{◌≡◌, ℕ, Bool, true, false, List, length, set, slice_index_or, refl, ap, sym, ◌∙◌, ◌+◌}
use Rattle.std.proofs.Common.{◌-◌, ◌*◌, ◌/◌, ◌%◌, ◌<◌, ◌≤◌, cond, arith}
use Rattle.std.proofs.lemmas.Bool.Decides.{nat_tests}
use Rattle.shadow_memory.specs.Directories.{cells_at, page_of}
use Rattle.shadow_memory.specs.Edits.{each_of}
use Rattle.shadow_memory.specs.Marks.{blank}
use Rattle.shadow_memory.specs.Places.{AgreeInPage, changed_from, is_between}
use Rattle.shadow_memory.specs.declared.cells.Cell.{Cell}
use Rattle.shadow_memory.specs.declared.cells.RangeKind.{RangeKind}
use Rattle.shadow_memory.specs.declared.edits.Each.{Each}
use Rattle.shadow_memory.specs.declared.slots.PageSlot.{PageSlot}
use Rattle.shadow_memory.proofs.Kept.{page-changed}

either-way : (b : Bool) (x y z : Cell) → x ≡ z → y ≡ z → cond b x y ≡ z
either-way true x y z e f = e
either-way false x y z e f = f

first-way : (b : Bool) (x y : Cell) → b ≡ true → cond b x y ≡ x
first-way b x y e = rw e refl

-- zeros that a change doesn't change
pub same-blank : (old new : RangeKind) (each : Each) (at n k : ℕ) → each_of each (blank old) ≡ blank new → old ≡ new
    → changed_from (λ a. blank old) at n (λ i cell. each_of each cell) k ≡ blank new
same-blank old new each at n k is same =
    either-way (is_between at (at + n) k) (each_of each (blank old)) (blank old) (blank new) is (ap blank same)

in-whole : (at n k : ℕ) → at + n ≤ 4096 → n ≡ 4096 → k < 4096 → is_between at (at + n) k ≡ true
in-whole at n k fits whole low = grind (arith, nat_tests)

-- and zeros all of which change
pub whole-blank : (old new : RangeKind) (each : Each) (at n k : ℕ) → each_of each (blank old) ≡ blank new → n ≡ 4096
    → at + n ≤ 4096 → k < 4096
    → changed_from (λ a. blank old) at n (λ i cell. each_of each cell) k ≡ blank new
whole-blank old new each at n k is whole fits low =
    first-way (is_between at (at + n) k) (each_of each (blank old)) (blank old) (in-whole at n k fits whole low) ∙ is

-- any page all of whose bytes become zeros of a kind
pub all-cleared : (cells : ℕ → Cell) (at n : ℕ) (change : ℕ → Cell → Cell) (made : Cell) → at + n ≤ 4096 → n ≡ 4096
    → ((k : ℕ) → k < 4096 → change k (cells k) ≡ made) → AgreeInPage (λ k. made) (changed_from cells at n change)
all-cleared cells at n change made fits whole is = λ k low.
    let none : k - at ≡ k = omega arith in
    sym (first-way (is_between at (at + n) k) (change (k - at) (cells k)) (cells k) (in-whole at n k fits whole low)
    ∙ ap (λ i. change i (cells k)) none ∙ is k low)

-- a page of a directory each of whose bytes changes
pub page-swept : (first place : ℕ) (pages : List PageSlot) (old made : PageSlot) (each : Each) → place < length pages
    → old ≡ slice_index_or pages place old
    → cells_at made ≡ (λ k. each_of each (cells_at old k))
    → (λ a. cells_at (page_of first (set pages place made) (a / 4096)) (a % 4096))
    ≡ changed_from (λ a. cells_at (page_of first pages (a / 4096)) (a % 4096)) (4096 * (first + place)) 4096
    (λ i cell. each_of each cell)
page-swept first place pages old made each within there is =
    let at = 4096 * (first + place) in
    let here : at / 4096 ≡ first + place = omega arith in
    let none : at % 4096 ≡ 0 = omega arith in
    let fits : at % 4096 + 4096 ≤ 4096 = omega arith in
    page-changed first place pages old made at 4096 (λ i cell. each_of each cell) here within fits there
    (λ k low. ap (λ (f : ℕ → Cell). f k) is
    ∙ sym
    (first-way (is_between (at % 4096) (at % 4096 + 4096) k) (each_of each (cells_at old k)) (cells_at old k)
    (in-whole (at % 4096) 4096 k fits refl low)))

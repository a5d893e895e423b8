-- Pages from a first one on, of which one changes, or after which more are kept.
use Rattle.std.proofs.Common.{◌≡◌, ◌≢◌, ℕ, Bool, true, false, List, ◌++◌, length, replicate, set, slice_index_or}
use Rattle.std.proofs.Common.{nat_lt, refl, ap, sym, ◌∙◌, ◌+◌, ◌-◌, ◌/◌, ◌%◌, ◌<◌, ◌≤◌, inl, inr, cond, arith}
use Rattle.std.proofs.Math.Path.{fun_ext}
use Rattle.std.proofs.lemmas.Bool.{cases_lt}
use Rattle.std.proofs.lemmas.Bool.Decides.{nat_tests}
use Rattle.std.proofs.lemmas.Grind.{get_or-set_at}
use Rattle.std.proofs.lemmas.List.{get_or-append_right, get_or-replicate, get_or-set_other, get_or_append_left}
use Rattle.std.proofs.lemmas.List.{get_or_default, get_or_past, length-replicate}
use Rattle.shadow_memory.specs.Places.{AgreeInPage, changed_from, is_between}
use Rattle.shadow_memory.specs.Directories.{cells_at, cells_under, page_at, page_of}
use Rattle.shadow_memory.specs.declared.cells.Cell.{Cell}
use Rattle.shadow_memory.specs.declared.cells.RangeKind.TheVariants.{NoAccess}
use Rattle.shadow_memory.specs.declared.directories.Directory.{Directory}
use Rattle.shadow_memory.specs.declared.slots.PageSlot.{PageSlot}
use Rattle.shadow_memory.specs.declared.slots.PageSlot.TheVariants.{Blank}
use Rattle.shadow_memory.proofs.Tables.{from-there, slot-changed, slot-kept}

choose-second : {X : Type 0} (b : Bool) (x y : X) → b ≡ false → cond b x y ≡ y
choose-second b x y e = rw e refl

choose-later : {X : Type 0} (b : Bool) (x y z : X) → (b ≡ false → y ≡ z) → cond b x y ≡ cond b x z
choose-later true x y z h = refl
choose-later false x y z h = h refl

is-from : (k first : ℕ) → first ≤ k → nat_lt k first ≡ false
is-from k first h = grind (arith, nat_tests)

from-is : (k first : ℕ) → nat_lt k first ≡ false → first ≤ k
from-is k first e = grind (arith, nat_tests)

-- a page from the first on is one of the list, at its place
page-from : (first k place : ℕ) (pages : List PageSlot) → k ≡ first + place
    → page_of first pages k ≡ slice_index_or pages place (Blank NoAccess)
page-from first k place pages e =
    let at : k - first ≡ place = omega arith in
    choose-second (nat_lt k first) (Blank NoAccess) (slice_index_or pages (k - first) (Blank NoAccess))
    (is-from k first (omega arith)) ∙ ap (λ i. slice_index_or pages i (Blank NoAccess)) at

other-pages : (first place number k : ℕ) (pages : List PageSlot) (made : PageSlot) → number ≡ first + place → k ≢ number
    → page_of first (set pages place made) k ≡ page_of first pages k
other-pages first place number k pages made e away = choose-later (nat_lt k first) (Blank NoAccess) _ _ (λ later.
    let past = from-is k first later in
    get_or-set_other pages place (k - first) made (Blank NoAccess) (λ same. away (omega arith)))

same-in-page : (at n a : ℕ) → at % 4096 + n ≤ 4096 → a / 4096 ≡ at / 4096
    → is_between (at % 4096) (at % 4096 + n) (a % 4096) ≡ is_between at (at + n) a
same-in-page at n a fits here = grind (arith, nat_tests)

away-from-page : (at n a : ℕ) → at % 4096 + n ≤ 4096 → a / 4096 ≢ at / 4096 → is_between at (at + n) a ≡ false
away-from-page at n a fits away = grind (arith, nat_tests)

-- one page changes
pub page-changed : (first place : ℕ) (pages : List PageSlot) (old made : PageSlot) (at n : ℕ) (change : ℕ → Cell → Cell)
    → at / 4096 ≡ first + place
    → place < length pages → at % 4096 + n ≤ 4096 → old ≡ slice_index_or pages place old
    → AgreeInPage (cells_at made) (changed_from (cells_at old) (at % 4096) n change)
    → (λ a. cells_at (page_of first (set pages place made) (a / 4096)) (a % 4096))
    ≡ changed_from (λ a. cells_at (page_of first pages (a / 4096)) (a % 4096)) at n change
page-changed first place pages old made at n change here within fits there is =
    let number = at / 4096 in
    let now = page-from first number place (set pages place made) here
    ∙ get_or-set_at pages place place made (Blank NoAccess) refl within in
    let was = there ∙ get_or_default pages place old (Blank NoAccess) within
    ∙ sym (page-from first number place pages here) in
    slot-changed cells_at (page_of first pages) (page_of first (set pages place made)) 4096 at (λ a. omega arith)
    (λ k away. other-pages first place number k pages made here away) n change (λ a same. same-in-page at n a fits same)
    (λ a same. omega arith)
    (λ a away. away-from-page at n a fits away)
    (λ k low. from-there cells_at _ made old _ (at % 4096) n change k now was (is k low))

pub page-same : (first place : ℕ) (pages : List PageSlot) (old made : PageSlot) (at : ℕ) → at / 4096 ≡ first + place
    → place < length pages → old ≡ slice_index_or pages place old
    → AgreeInPage (cells_at made) (cells_at old)
    → ◌≡◌ {A = ℕ → Cell} (λ a. cells_at (page_of first (set pages place made) (a / 4096)) (a % 4096))
    (λ a. cells_at (page_of first pages (a / 4096)) (a % 4096))
page-same first place pages old made at here within there is =
    let number = at / 4096 in
    let now = page-from first number place (set pages place made) here
    ∙ get_or-set_at pages place place made (Blank NoAccess) refl within in
    let was = there ∙ get_or_default pages place old (Blank NoAccess) within
    ∙ sym (page-from first number place pages here) in
    slot-kept cells_at (page_of first pages) (page_of first (set pages place made)) 4096 at (λ a. omega arith)
    (λ k away. other-pages first place number k pages made here away)
    (λ k low. ap (λ s. cells_at s k) now ∙ is k low ∙ ap (λ s. cells_at s k) was)

only-blank : (count i : ℕ) → slice_index_or (replicate count (Blank NoAccess)) i (Blank NoAccess) ≡ Blank NoAccess
only-blank count i = elim (cases_lt i count) [
  | inl near ↦ get_or-replicate count i (Blank NoAccess) (Blank NoAccess) near
  | inr far ↦ let long =
      length-replicate count (Blank NoAccess) in
      get_or_past (replicate count (Blank NoAccess)) i (Blank NoAccess) (omega arith)
]

-- more pages are kept after the last
pub more-after : (first count k : ℕ) (pages : List PageSlot)
    → page_of first (pages ++ replicate count (Blank NoAccess)) k ≡ page_of first pages k
more-after first count k pages =
    choose-later (nat_lt k first) (Blank NoAccess) _ _ (λ later. elim (cases_lt (k - first) (length pages)) [
      | inl near ↦ get_or_append_left pages (replicate count (Blank NoAccess)) (Blank NoAccess) (k - first) near
      | inr far ↦
          get_or-append_right pages (replicate count (Blank NoAccess)) (length pages) (k - first) (Blank NoAccess) refl
          far
          ∙ only-blank count (k - first - length pages) ∙ sym (get_or_past pages (k - first) (Blank NoAccess) far)
    ])

-- directories that have the same pages show the same
pub same-pages : (a b : Directory) → ((k : ℕ) → page_at b k ≡ page_at a k) → cells_under b ≡ cells_under a
unfolding cells_under
same-pages a b h = fun_ext (λ n. ap (λ s. cells_at s (n % 4096)) (h (n / 4096)))

-- A table of slots with the same number of places each, of which one slot changes.
use Rattle.std.proofs.Common.{◌≡◌, ◌≢◌, ℕ, Bool, false, List, length, get_or, set, refl, ap, sym, ◌∙◌, ◌+◌, ◌-◌, ◌/◌}
use Rattle.std.proofs.Common.{map, ◌%◌, ◌<◌, ◌≤◌, inl, inr, cond, arith}
use Rattle.std.proofs.Math.Path.{fun_ext}
use Rattle.std.proofs.lemmas.Bool.{cases_eq}
use Rattle.std.proofs.lemmas.Bool.Decides.{nat_tests}
use Rattle.std.proofs.lemmas.Grind.{get_or-set_at}
use Rattle.std.proofs.lemmas.List.{get_or_default, get_or-map, get_or-set_other, length-map, map-set}
use Rattle.shadow_memory.specs.Places.{AgreeInDirectory, changed_from, is_between}
use Rattle.shadow_memory.specs.Marks.{blank}
use Rattle.shadow_memory.specs.TopDirectories.{cells_on, top_directory_of}
use Rattle.shadow_memory.specs.declared.cells.Cell.{Cell}
use Rattle.shadow_memory.specs.declared.cells.RangeKind.TheVariants.{NoAccess}
use Rattle.shadow_memory.specs.declared.top_directories.TopDirectory.{TopDirectory}

choose-same : (b c : Bool) (i j : ℕ) (x y : Cell) (change : ℕ → Cell → Cell) → b ≡ c → i ≡ j → x ≡ y
    → cond b (change i x) x ≡ cond c (change j y) y
choose-same b c i j x y change e f g = cc

choose-other : (c : Bool) (x y : Cell) → c ≡ false → y ≡ cond c x y
choose-other c x y e = rw e refl

module _ {S : Type 0} (shown : S → ℕ → Cell) (old new : ℕ → S) (B at : ℕ) (below : (a : ℕ)
    → a % B < B) (others : (k : ℕ) → k ≢ at / B → new k ≡ old k) where
  slot-is : (slots : ℕ → S) (a : ℕ) → a / B ≡ at / B → shown (slots (a / B)) (a % B) ≡ shown (slots (at / B)) (a % B)
  slot-is slots a here = ap (λ k. shown (slots k) (a % B)) here

  pub slot-kept : ((k : ℕ) → k < B → shown (new (at / B)) k ≡ shown (old (at / B)) k)
      → ◌≡◌ {A = ℕ → Cell} (λ a. shown (new (a / B)) (a % B)) (λ a. shown (old (a / B)) (a % B))
  slot-kept is = fun_ext (λ a. elim (cases_eq (a / B) (at / B)) [
    | inl here ↦ slot-is new a here ∙ is (a % B) (below a) ∙ sym (slot-is old a here)
    | inr away ↦ ap (λ s. shown s (a % B)) (others (a / B) away)
  ])

  pub slot-changed : (n : ℕ) (change : ℕ → Cell → Cell)
      → ((a : ℕ) → a / B ≡ at / B → is_between (at % B) (at % B + n) (a % B) ≡ is_between at (at + n) a)
      → ((a : ℕ) → a / B ≡ at / B → a % B - at % B ≡ a - at)
      → ((a : ℕ) → a / B ≢ at / B → is_between at (at + n) a ≡ false)
      → ((k : ℕ) → k < B → shown (new (at / B)) k ≡ changed_from (shown (old (at / B))) (at % B) n change k)
      → (λ a. shown (new (a / B)) (a % B)) ≡ changed_from (λ a. shown (old (a / B)) (a % B)) at n change
  slot-changed n change same minus other is = fun_ext (λ a. elim (cases_eq (a / B) (at / B)) [
    | inl here ↦ slot-is new a here ∙ is (a % B) (below a)
        ∙ choose-same _ _ _ _ _ _ change (same a here) (minus a here) (sym (slot-is old a here))
    | inr away ↦ ap (λ s. shown s (a % B)) (others (a / B) away) ∙ choose-other _ _ _ (other a away)
  ])

-- what a slot shows, where it is another and its cells are changed
pub from-there : {S : Type 0} (shown : S → ℕ → Cell) (now made old there : S) (at n : ℕ) (change : ℕ → Cell
    → Cell) (k : ℕ) → now ≡ made → old ≡ there
    → shown made k ≡ changed_from (shown old) at n change k → shown now k ≡ changed_from (shown there) at n change k
from-there shown now made old there at n change k e f h =
    ap (λ s. shown s k) e ∙ h ∙ ap (λ s. changed_from (shown s) at n change k) f

same-in-directory : (at n a : ℕ) → at % 4194304 + n ≤ 4194304 → a / 4194304 ≡ at / 4194304
    → is_between (at % 4194304) (at % 4194304 + n) (a % 4194304) ≡ is_between at (at + n) a
same-in-directory at n a fits here = grind (arith, nat_tests)

away-from-directory : (at n a : ℕ) → at % 4194304 + n ≤ 4194304 → a / 4194304 ≢ at / 4194304
    → is_between at (at + n) a ≡ false
away-from-directory at n a fits away = grind (arith, nat_tests)

pub directory-changed : {S : Type 0} (shown : S → ℕ → Cell) (d : S) (xs : List S) (old made : S) (at n : ℕ) (change : ℕ
    → Cell → Cell)
    → at / 4194304 < length xs → at % 4194304 + n ≤ 4194304 → old ≡ get_or xs (at / 4194304) old
    → AgreeInDirectory (shown made) (changed_from (shown old) (at % 4194304) n change)
    → (λ a. shown (get_or (set xs (at / 4194304) made) (a / 4194304) d) (a % 4194304))
    ≡ changed_from (λ a. shown (get_or xs (a / 4194304) d) (a % 4194304)) at n change
directory-changed shown d xs old made at n change within fits there is =
    let i = at / 4194304 in
    slot-changed shown (λ k. get_or xs k d) (λ k. get_or (set xs i made) k d) 4194304 at (λ a. omega arith)
    (λ k away. get_or-set_other xs i k made d away) n
    change (λ a here. same-in-directory at n a fits here) (λ a here. omega arith)
    (λ a away. away-from-directory at n a fits away)
    (λ k low. from-there shown (get_or (set xs i made) i d) made old (get_or xs i d) (at % 4194304) n change k
    (get_or-set_at xs i i made d refl within)
    (there ∙ get_or_default xs i old d within) (is k low))

pub directory-kept : {S : Type 0} (shown : S → ℕ → Cell) (d : S) (xs : List S) (old made : S) (at : ℕ)
    → at / 4194304 < length xs → old ≡ get_or xs (at / 4194304) old
    → AgreeInDirectory (shown made) (shown old)
    → ◌≡◌ {A = ℕ → Cell} (λ a. shown (get_or (set xs (at / 4194304) made) (a / 4194304) d) (a % 4194304))
    (λ a. shown (get_or xs (a / 4194304) d) (a % 4194304))
directory-kept shown d xs old made at within there is =
    let i = at / 4194304 in
    slot-kept shown (λ k. get_or xs k d) (λ k. get_or (set xs i made) k d) 4194304 at (λ a. omega arith)
    (λ k away. get_or-set_other xs i k made d away)
    (λ k low. ap (λ s. shown s k) (get_or-set_at xs i i made d refl within) ∙ is k low
    ∙ ap (λ s. shown s k) (there ∙ get_or_default xs i old d within))

same-in-shelf : (at n a : ℕ) → at % 134217728 + n ≤ 134217728 → a / 134217728 ≡ at / 134217728
    → is_between (at % 134217728) (at % 134217728 + n) (a % 134217728) ≡ is_between at (at + n) a
same-in-shelf at n a fits here = grind (arith, nat_tests)

away-from-shelf : (at n a : ℕ) → at % 134217728 + n ≤ 134217728 → a / 134217728 ≢ at / 134217728
    → is_between at (at + n) a ≡ false
away-from-shelf at n a fits away = grind (arith, nat_tests)

other-shelf : (xs : List TopDirectory) (i k : ℕ) (made : TopDirectory) → k ≢ i
    → top_directory_of (set xs i made) k ≡ top_directory_of xs k
other-shelf xs i k made away =
    ap (λ (cells : List (ℕ → Cell)). get_or cells k (λ at. blank NoAccess)) (map-set cells_on xs i made)
    ∙ get_or-set_other (map cells_on xs) i k (cells_on made) (λ at. blank NoAccess) away

made-shelf : (xs : List TopDirectory) (i : ℕ) (made : TopDirectory) → i < length xs
    → top_directory_of (set xs i made) i ≡ cells_on made
made-shelf xs i made within =
    let within : i < length (map cells_on xs) = rw (length-map xs cells_on) within in
    ap (λ (cells : List (ℕ → Cell)). get_or cells i (λ at. blank NoAccess)) (map-set cells_on xs i made)
    ∙ get_or-set_at (map cells_on xs) i i (cells_on made) (λ at. blank NoAccess) refl within

-- the cells of a top directory that is kept
shelf-is : (xs : List TopDirectory) (i : ℕ) (x : TopDirectory) → i < length xs → x ≡ get_or xs i x
    → top_directory_of xs i ≡ cells_on x
shelf-is xs i x within there =
    get_or-map cells_on xs i x (λ at. blank NoAccess) within ∙ ap cells_on (sym there)

pub seen-there : (xs : List TopDirectory) (x : TopDirectory) (at a : ℕ) → at / 134217728 < length xs
    → x ≡ get_or xs (at / 134217728) x → a / 134217728 ≡ at / 134217728
    → top_directory_of xs (a / 134217728) (a % 134217728) ≡ cells_on x (a % 134217728)
seen-there xs x at a within there here =
    ap (λ k. top_directory_of xs k (a % 134217728)) here
    ∙ ap (λ (f : ℕ → Cell). f (a % 134217728)) (shelf-is xs (at / 134217728) x within there)

pub shelf-changed : (xs : List TopDirectory) (old made : TopDirectory) (at n : ℕ) (change : ℕ → Cell → Cell)
    → at / 134217728 < length xs → at % 134217728 + n ≤ 134217728 → old ≡ get_or xs (at / 134217728) old
    → cells_on made ≡ changed_from (cells_on old) (at % 134217728) n change
    → (λ a. top_directory_of (set xs (at / 134217728) made) (a / 134217728) (a % 134217728))
    ≡ changed_from (λ a. top_directory_of xs (a / 134217728) (a % 134217728)) at n change
shelf-changed xs old made at n change within fits there is =
    let i = at / 134217728 in
    slot-changed (λ (f : ℕ → Cell). f) (top_directory_of xs) (top_directory_of (set xs i made)) 134217728 at
    (λ a. omega arith)
    (λ k away. other-shelf xs i k made away) n
    change (λ a here. same-in-shelf at n a fits here) (λ a here. omega arith)
    (λ a away. away-from-shelf at n a fits away)
    (λ k low. ap (λ (f : ℕ → Cell). f k) (made-shelf xs i made within ∙ is)
    ∙ ap (λ (f : ℕ → Cell). changed_from f (at % 134217728) n change k) (sym (shelf-is xs i old within there)))

pub shelf-kept : (xs : List TopDirectory) (old made : TopDirectory) (at : ℕ)
    → at / 134217728 < length xs → old ≡ get_or xs (at / 134217728) old → cells_on made ≡ cells_on old
    → ◌≡◌ {A = ℕ → Cell} (λ a. top_directory_of (set xs (at / 134217728) made) (a / 134217728) (a % 134217728))
    (λ a. top_directory_of xs (a / 134217728) (a % 134217728))
shelf-kept xs old made at within there is =
    let i = at / 134217728 in
    slot-kept (λ (f : ℕ → Cell). f) (top_directory_of xs) (top_directory_of (set xs i made)) 134217728 at
    (λ a. omega arith)
    (λ k away. other-shelf xs i k made away)
    (λ k low. ap (λ (f : ℕ → Cell). f k)
    (made-shelf xs i made within ∙ is ∙ sym (shelf-is xs i old within there)))

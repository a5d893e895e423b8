-- One step of a loop over the program headers: what is left at an index, and at the next.
use Rattle.std.proofs.Common.{◌≡◌, ℕ, suc, ◌+◌, ◌-◌, ◌<◌, ◌≤◌, Bool, true, false, cond, ◌||◌, List, [], ◌∷◌, map}
use Rattle.std.proofs.Common.{length, refl, sym, ◌∙◌, ap, arith}
use Rattle.std.proofs.Math.Nat.{sub-zero}
use Rattle.std.proofs.lemmas.Bool.{or_parts}
use Rattle.std.specs.List.{filter, list_any, range_with_len}
use Rattle.guest_elf.specs.File.{any_two_meet, header_at, header_count, headers_of, is_load, loadable_of}
use Rattle.guest_elf.specs.declared.program.ProgramHeader.{ProgramHeader}

-- the program headers from an index on
unfoldable pub headers_after : List ℕ → ℕ → List ProgramHeader
headers_after file index = map (header_at file) (range_with_len index (header_count file - index))

-- those of them that are loaded
unfoldable pub loadable_after : List ℕ → ℕ → List ProgramHeader
loadable_after file index = filter is_load (headers_after file index)

pub headers_start : (file : List ℕ) → headers_after file 0 ≡ headers_of file
unfolding headers_after
headers_start file = ap (λ n. map (header_at file) (range_with_len 0 n)) (sub-zero (header_count file))

pub headers_end : (file : List ℕ) (index : ℕ) → header_count file ≤ index → headers_after file index ≡ []
unfolding headers_after
headers_end file index past =
    let none : header_count file - index ≡ 0 = omega arith in
    ap (λ n. map (header_at file) (range_with_len index n)) none

pub headers_step : (file : List ℕ) (index : ℕ) → index < header_count file →
    headers_after file index ≡ header_at file index ∷ headers_after file (index + 1)
unfolding headers_after
headers_step file index listed =
    let one_more : header_count file - index ≡ suc (header_count file - (index + 1)) = omega arith in
    ap (λ n. map (header_at file) (range_with_len index n)) one_more

pub loadable_start : (file : List ℕ) → loadable_after file 0 ≡ loadable_of file
unfolding loadable_after
loadable_start file = ap (filter is_load) (headers_start file)

pub loadable_end : (file : List ℕ) (index : ℕ) → header_count file ≤ index → loadable_after file index ≡ []
unfolding loadable_after
loadable_end file index past = ap (filter is_load) (headers_end file index past)

pub loadable_take : (file : List ℕ) (index : ℕ) → index < header_count file → is_load (header_at file index) ≡ true →
    loadable_after file index ≡ header_at file index ∷ loadable_after file (index + 1)
unfolding loadable_after
loadable_take file index listed load =
    let header = header_at file index in
    let later = filter is_load (headers_after file (index + 1)) in
    ap (filter is_load) (headers_step file index listed) ∙ ap (λ b. cond b (header ∷ later) later) load

pub loadable_skip : (file : List ℕ) (index : ℕ) → index < header_count file → is_load (header_at file index) ≡ false →
    loadable_after file index ≡ loadable_after file (index + 1)
unfolding loadable_after
loadable_skip file index listed no_load =
    let header = header_at file index in
    let later = filter is_load (headers_after file (index + 1)) in
    ap (filter is_load) (headers_step file index listed) ∙ ap (λ b. cond b (header ∷ later) later) no_load

-- the header h at the index is loaded, and the next loads follow it
pub loadable_take_at : (file : List ℕ) (index : ℕ) (h : ProgramHeader) → h ≡ header_at file index
    → index < header_count file →
    is_load h ≡ true → loadable_after file index ≡ h ∷ loadable_after file (index + 1)
loadable_take_at file index h here listed load =
    loadable_take file index listed (ap is_load (sym here) ∙ load)
    ∙ ap (λ g. g ∷ loadable_after file (index + 1)) (sym here)

-- the header h at the index is not loaded
pub loadable_skip_at : (file : List ℕ) (index : ℕ) (h : ProgramHeader) → h ≡ header_at file index
    → index < header_count file →
    is_load h ≡ false → loadable_after file index ≡ loadable_after file (index + 1)
loadable_skip_at file index h here listed no_load = loadable_skip file index listed (ap is_load (sym here) ∙ no_load)

-- whether any of a list passes, by its first element
pub any_cons : (p : ProgramHeader → Bool) (xs : List ProgramHeader) (h : ProgramHeader) (later : List ProgramHeader)
    (b : Bool) →
    xs ≡ h ∷ later → p h ≡ b → list_any p xs ≡ (b || list_any p later)
any_cons p xs h later b first passes = ap (list_any p) first ∙ ap (λ t. t || list_any p later) passes

-- of at most one segment no two meet
pub any_two_meet_none : (headers : List ProgramHeader) → length headers ≤ 1 → any_two_meet headers ≡ false
any_two_meet_none [] few = refl
any_two_meet_none (header ∷ []) few = refl
any_two_meet_none (header ∷ (other ∷ headers)) few = absurd (omega (arith, few))

-- where none of a list passes, its first element does not, nor does a later one
pub none_cons : (p : ProgramHeader → Bool) (xs : List ProgramHeader) (h : ProgramHeader) (later : List ProgramHeader) →
    xs ≡ h ∷ later → list_any p xs ≡ false → (p h ≡ false) × (list_any p later ≡ false)
none_cons p xs h later first none = or_parts (p h) (list_any p later) (sym (ap (list_any p) first) ∙ none)

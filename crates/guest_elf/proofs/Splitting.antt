-- The pieces of program headers: with the usual regions each is whole, and those of good ones are good and not empty.
use Rattle.std.proofs.Common.{◌≡◌, ℕ, ◌+◌, ◌-◌, ◌%◌, ◌<◌, ◌≤◌, Bool, true, false, cond, not, ◌&&◌, ◌||◌, ◌==◌, List, []}
use Rattle.std.proofs.Common.{◌∷◌, nat_lt, nat_le, length, refl, sym, ◌∙◌, ap, arith, All}
use Rattle.std.proofs.Math.Bool.{Bool-set}
use Rattle.std.proofs.lemmas.Bool.{and_parts, or_parts}
use Rattle.std.proofs.lemmas.Bool.Decides.{nat_tests}
use Rattle.std.proofs.lemmas.List.Elements.{All-cons}
use Rattle.std.proofs.lemmas.List.Folds.{list_any-append}
use Rattle.std.specs.List.{filter, flat_map, list_any}
use Rattle.std.specs.Prelude.{◌^◌}
use Rattle.memory_map.specs.Regions.{are_regions, heap_begin, is_heap_begin, is_stack_region, overlap, stack_begin}
use Rattle.memory_map.specs.Regions.{stack_end}
use Rattle.memory_map.specs.Usual.{usual}
use Rattle.memory_map.specs.declared.regions.Regions.{Regions}
use Rattle.memory_map.specs.declared.regions.StackRegion.{StackRegion}
use Rattle.guest_elf.specs.File.{back_of, front_of, headers_of, is_around, is_bad_segment, is_load, is_moved}
use Rattle.guest_elf.specs.File.{loadable_of, loads_of, pieces_of}
use Rattle.guest_elf.specs.declared.program.ProgramHeader.{ProgramHeader}
use Rattle.guest_elf.proofs.Loading.{good_from_test}

rises : (begin end : ℕ) → is_stack_region begin end ≡ true → begin ≤ end
unfolding is_stack_region
rises begin end fine =
    let ends = and_parts (end % 4096 == 0) _ (and_parts (begin % 4096 == 0) _ fine).1 in
    let long = and_parts (nat_le (begin + 65536) end) _ ends.1 in
    grind (arith, nat_tests, long.0)

-- the stack's region ends no lower than it begins
pub stack_rises : (regions : Regions) → regions.stack.begin ≤ regions.stack.end
stack_rises regions =
    let sound = and_parts (is_heap_begin regions.heap) _ regions.sound in
    rises regions.stack.begin regions.stack.end (and_parts _ _ sound.1).0

at_most : (a b : ℕ) → nat_le a b ≡ true → a ≤ b
at_most a b e = grind (arith, nat_tests)

-- regions with the usual bounds are the usual ones
pub usual_by : (sound : are_regions heap_begin stack_begin stack_end ≡ true) →
    ◌≡◌ {A = Regions}
    (record { heap = heap_begin; stack = record { begin = stack_begin; end = stack_end }; sound = sound }) usual
unfolding is_heap_begin is_stack_region overlap
usual_by sound =
    ap (λ (same : are_regions heap_begin stack_begin stack_end ≡ true).
    record { heap = heap_begin; stack = record { begin = stack_begin; end = stack_end }; sound = same })
    (Bool-set _ _ sound usual.sound)

-- where the region of a stack lies in a program header that is around it
pub ends_within : (stack : StackRegion) (header : ProgramHeader) → is_around stack header ≡ true →
    (header.vaddr + header.filesz ≤ stack.begin) × (stack.end ≤ header.vaddr + header.memsz)
unfolding is_around
ends_within stack header around =
    let ends = and_parts _ _ around in
    (at_most (header.vaddr + header.filesz) stack.begin ends.0, at_most stack.end (header.vaddr + header.memsz) ends.1)

whole : (headers : List ProgramHeader) → flat_map (pieces_of usual.stack) headers ≡ headers
unfolding pieces_of is_moved is_heap_begin is_stack_region overlap
whole [] = refl
whole (header ∷ headers) = ap (λ hs. header ∷ hs) (whole headers)

-- with the usual regions each program header is whole
pub usual_whole : (file : List ℕ) → loads_of usual file ≡ loadable_of file
usual_whole file = whole (loadable_of file)

-- whether a program header isn't to be loaded, or is bad
unfoldable pub is_unfit : ℕ → ProgramHeader → Bool
is_unfit file_length header = not (is_load header) || is_bad_segment file_length header

neither : (a b : Bool) → a ≡ true → b ≡ false → (not a || b) ≡ false
neither a b load good = ap (λ x. not x || b) load ∙ good

none_kept : (file_length : ℕ) (b : Bool) (header : ProgramHeader) (later : List ProgramHeader) →
    is_load header ≡ b →
    (list_any (is_bad_segment file_length) later ≡ false → list_any (is_unfit file_length) later ≡ false) →
    list_any (is_bad_segment file_length) (cond b (header ∷ later) later) ≡ false
    → list_any (is_unfit file_length) (cond b (header ∷ later) later) ≡ false
unfolding is_unfit
none_kept file_length true header later load rest good =
    let parts = or_parts (is_bad_segment file_length header) (list_any (is_bad_segment file_length) later) good in
    ap (λ b. b || list_any (is_unfit file_length) later) (neither _ _ load parts.0) ∙ rest parts.1
none_kept file_length false header later load rest good = rest good

-- those that are to be loaded are fit if none is bad
loads_fit : (file_length : ℕ) (headers : List ProgramHeader) →
    list_any (is_bad_segment file_length) (filter is_load headers) ≡ false
    → list_any (is_unfit file_length) (filter is_load headers) ≡ false
loads_fit file_length [] good = refl
loads_fit file_length (header ∷ headers) good =
    none_kept file_length (is_load header) header (filter is_load headers) refl (loads_fit file_length headers) good

none_left : (p : ProgramHeader → Bool) (b : Bool) (header : ProgramHeader) (later : List ProgramHeader) →
    p header ≡ false → list_any p later ≡ false → list_any p (cond b (header ∷ later) later) ≡ false
none_left p true header later first others = ap (λ x. x || list_any p later) first ∙ others
none_left p false header later first others = others

two_fit : (file_length : ℕ) (front back : ProgramHeader) → is_bad_segment file_length front ≡ false
    → is_bad_segment file_length back ≡ false →
    list_any (is_unfit file_length) (filter is_load (front ∷ back ∷ [])) ≡ false
two_fit file_length front back one other =
    loads_fit file_length (front ∷ back ∷ [])
    (none_left (is_bad_segment file_length) (is_load front) front _ one
    (none_left (is_bad_segment file_length) (is_load back) back [] other refl))

front_numbers : (file_length offset vaddr filesz memsz begin end : ℕ) → (0 < filesz → offset + filesz ≤ file_length) →
    vaddr + memsz ≤ 2 ^ 32 → vaddr + filesz ≤ begin → begin ≤ end → end ≤ vaddr + memsz →
    (nat_lt (begin - vaddr) filesz || (not (filesz == 0) && nat_lt file_length (offset + filesz))
    || nat_lt (2 ^ 32) (vaddr + (begin - vaddr))) ≡ false
front_numbers file_length offset vaddr filesz memsz begin end inside space low rises high = grind (arith, nat_tests)

back_numbers : (file_length vaddr memsz end : ℕ) → vaddr + memsz ≤ 2 ^ 32 → end ≤ vaddr + memsz →
    (nat_lt (vaddr + memsz - end) 0 || (not (0 == 0) && nat_lt file_length (0 + 0))
    || nat_lt (2 ^ 32) (end + (vaddr + memsz - end))) ≡ false
back_numbers file_length vaddr memsz end space high = grind (arith, nat_tests)

pieces_fit_by : (file_length : ℕ) (regions : Regions) (header : ProgramHeader) (b : Bool) →
    (b ≡ true → is_around regions.stack header ≡ true) → is_unfit file_length header ≡ false →
    list_any (is_unfit file_length)
    (cond b (filter is_load (front_of regions.stack header ∷ back_of regions.stack header ∷ [])) (header ∷ []))
    ≡ false
unfolding is_unfit is_bad_segment
pieces_fit_by file_length regions header true around fit =
    let good = good_from_test file_length header (or_parts _ _ fit).1 in
    let ends = ends_within regions.stack header (around refl) in
    two_fit file_length (front_of regions.stack header) (back_of regions.stack header)
    (front_numbers file_length header.offset header.vaddr header.filesz header.memsz regions.stack.begin
    regions.stack.end good.in_file good.in_space ends.0 (stack_rises regions) ends.1)
    (back_numbers file_length header.vaddr header.memsz regions.stack.end good.in_space ends.1)
pieces_fit_by file_length regions header false around fit = ap (λ b. b || false) fit

pieces_fit : (file_length : ℕ) (regions : Regions) (header : ProgramHeader) → is_unfit file_length header ≡ false →
    list_any (is_unfit file_length) (pieces_of regions.stack header) ≡ false
unfolding pieces_of
pieces_fit file_length regions header fit =
    pieces_fit_by file_length regions header (is_moved regions.stack && is_around regions.stack header)
    (λ both. (and_parts _ _ both).1) fit

all_fit : (file_length : ℕ) (regions : Regions) (headers : List ProgramHeader) →
    list_any (is_unfit file_length) headers ≡ false →
    list_any (is_unfit file_length) (flat_map (pieces_of regions.stack) headers) ≡ false
all_fit file_length regions [] fit = refl
all_fit file_length regions (header ∷ headers) fit =
    let parts = or_parts _ _ fit in
    list_any-append (is_unfit file_length) (pieces_of regions.stack header) (flat_map (pieces_of regions.stack) headers)
    ∙ ap (λ b. b || list_any (is_unfit file_length) (flat_map (pieces_of regions.stack) headers))
    (pieces_fit file_length regions header parts.0)
    ∙ all_fit file_length regions headers parts.1

fit_good : (file_length : ℕ) (headers : List ProgramHeader) → list_any (is_unfit file_length) headers ≡ false →
    list_any (is_bad_segment file_length) headers ≡ false
unfolding is_unfit
fit_good file_length [] fit = refl
fit_good file_length (header ∷ headers) fit =
    let parts = or_parts (is_unfit file_length header) (list_any (is_unfit file_length) headers) fit in
    let first = (or_parts (not (is_load header)) (is_bad_segment file_length header) parts.0).1 in
    ap (λ b. b || list_any (is_bad_segment file_length) headers) first ∙ fit_good file_length headers parts.1

is_load_of : (b : Bool) → not b ≡ false → b ≡ true
is_load_of true e = refl
is_load_of false e = sym e

loaded_some : (filesz memsz : ℕ) → filesz ≤ memsz → not (filesz == 0 && memsz == 0) ≡ true → 0 < memsz
loaded_some filesz memsz within some = grind (arith, nat_tests)

fit_some : (file_length : ℕ) (headers : List ProgramHeader) → list_any (is_unfit file_length) headers ≡ false →
    All (λ (h : ProgramHeader). 0 < h.memsz) headers
unfolding is_unfit is_load
fit_some file_length [] fit = λ k d below. absurd (omega (arith, below))
fit_some file_length (header ∷ headers) fit =
    let parts = or_parts (is_unfit file_length header) (list_any (is_unfit file_length) headers) fit in
    let first = or_parts (not (is_load header)) (is_bad_segment file_length header) parts.0 in
    let some = (and_parts _ _ (is_load_of (is_load header) first.0)).1 in
    All-cons (λ (h : ProgramHeader). 0 < h.memsz) header headers
    (loaded_some header.filesz header.memsz (good_from_test file_length header first.1).within some)
    (fit_some file_length headers parts.1)

-- where no program header is bad, no piece is
pub loads_good : (regions : Regions) (file : List ℕ) →
    list_any (is_bad_segment (length file)) (loadable_of file) ≡ false
    → list_any (is_bad_segment (length file)) (loads_of regions file) ≡ false
loads_good regions file good =
    fit_good (length file) (loads_of regions file) (all_fit (length file) regions (loadable_of file)
    (loads_fit (length file) (headers_of file) good))

-- and each piece has an address
pub loads_some : (regions : Regions) (file : List ℕ) →
    list_any (is_bad_segment (length file)) (loadable_of file) ≡ false
    → All (λ (h : ProgramHeader). 0 < h.memsz) (loads_of regions file)
loads_some regions file good =
    fit_some (length file) (loads_of regions file) (all_fit (length file) regions (loadable_of file)
    (loads_fit (length file) (headers_of file) good))

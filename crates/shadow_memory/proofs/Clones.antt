-- Tables whose slots show the same show the same.
use Rattle.std.proofs.Common.{◌≡◌, ℕ, zero, suc, List, [], ◌∷◌, ◌++◌, Bool, true, false, cond, nat_lt, slice_index_or}
use Rattle.std.proofs.Common.{map, refl, ap, ◌∙◌, ◌-◌, ◌/◌, ◌%◌}
use Rattle.std.proofs.Math.Path.{fun_ext}
use Rattle.std.proofs.lemmas.List.{map-append}
use Rattle.std.specs.List.{AllZip}
use Rattle.shadow_memory.specs.Directories.{cells_at, cells_under, page_at, page_of}
use Rattle.shadow_memory.specs.Marks.{blank}
use Rattle.shadow_memory.specs.Memories.{cells_of}
use Rattle.shadow_memory.specs.TopDirectories.{cells_below, cells_on, top_directory_of}
use Rattle.shadow_memory.specs.declared.cells.Cell.{Cell}
use Rattle.shadow_memory.specs.declared.cells.RangeKind.TheVariants.{NoAccess}
use Rattle.shadow_memory.specs.declared.directories.Directory.{Directory}
use Rattle.shadow_memory.specs.declared.memory.Memory.{Memory}
use Rattle.shadow_memory.specs.declared.top_directories.TopDirectory.{TopDirectory}
use Rattle.shadow_memory.specs.declared.directory_slots.DirectorySlot.TheVariants as Below
use Rattle.shadow_memory.specs.declared.slots.PageSlot.TheVariants as At

-- lists that agree slot by slot in what the slots show
pub same_slots : {S : Type 0} (shown : S → ℕ → Cell) (d : S) (xs ys : List S) → AllZip (λ x y. shown y ≡ shown x) xs ys
    → (i : ℕ) → shown (slice_index_or ys i d) ≡ shown (slice_index_or xs i d)
same_slots shown d [] [] h i = refl
same_slots shown d [] (y ∷ ys) h i = absurd h
same_slots shown d (x ∷ xs) [] h i = absurd h
same_slots shown d (x ∷ xs) (y ∷ ys) h zero = h.0
same_slots shown d (x ∷ xs) (y ∷ ys) h (suc i) = same_slots shown d xs ys h.1 i

either_slot : {S : Type 0} (shown : S → ℕ → Cell) (c : Bool) (d x y : S) → shown y ≡ shown x
    → shown (cond c d y) ≡ shown (cond c d x)
either_slot shown true d x y h = refl
either_slot shown false d x y h = h

pub same_under : (a b : Directory) → b.first ≡ a.first
    → ((i : ℕ) → cells_at (slice_index_or b.pages.items i (At.Blank NoAccess))
    ≡ cells_at (slice_index_or a.pages.items i (At.Blank NoAccess)))
    → cells_under b ≡ cells_under a
unfolding cells_under page_at
same_under a b e h = fun_ext (λ n.
    ap (λ first. cells_at (page_of first b.pages.items (n / 4096)) (n % 4096)) e
    ∙ ap (λ f. f (n % 4096)) (either_slot cells_at (nat_lt (n / 4096) a.first) (At.Blank NoAccess) _ _
    (h (n / 4096 - a.first))))

pub same_on : (a b : TopDirectory) → ((i : ℕ) → cells_below (slice_index_or b.directories.items i Below.Blank)
    ≡ cells_below (slice_index_or a.directories.items i Below.Blank)) → cells_on b ≡ cells_on a
unfolding cells_on
same_on a b h = fun_ext (λ n. ap (λ f. f (n % 4194304)) (h (n / 4194304)))

pub same_of : (a b : Memory) → ((i : ℕ) → top_directory_of b.tops.items i ≡ top_directory_of a.tops.items i)
    → cells_of b ≡ cells_of a
unfolding cells_of
same_of a b h = fun_ext (λ n. ap (λ f. f (n % 134217728)) (h (n / 134217728)))

cells_alike : (xs ys : List TopDirectory) → AllZip (λ x y. cells_on y ≡ cells_on x) xs ys
    → map cells_on ys ≡ map cells_on xs
cells_alike [] [] h = refl
cells_alike [] (y ∷ ys) h = absurd h
cells_alike (x ∷ xs) [] h = absurd h
cells_alike (x ∷ xs) (y ∷ ys) h =
    ap (λ f. f ∷ map cells_on ys) h.0 ∙ ap (λ fs. cells_on x ∷ fs) (cells_alike xs ys h.1)

-- tops that agree in order
pub same_shelves : (xs ys : List TopDirectory) → AllZip (λ x y. cells_on y ≡ cells_on x) xs ys
    → (i : ℕ) → top_directory_of ys i ≡ top_directory_of xs i
same_shelves xs ys h i =
    ap (λ (cells : List (ℕ → Cell)). slice_index_or cells i (λ at. blank NoAccess)) (cells_alike xs ys h)

-- a slot that shows what lies past the end changes nothing
pub one_more : {S : Type 0} (d : S) (xs : List S) (i : ℕ) → slice_index_or (xs ++ (d ∷ [])) i d ≡ slice_index_or xs i d
one_more d [] zero = refl
one_more d [] (suc i) = refl
one_more d (x ∷ xs) zero = refl
one_more d (x ∷ xs) (suc i) = one_more d xs i

-- nor does a blank top directory
pub more_shelves : (xs : List TopDirectory) (x : TopDirectory) (i : ℕ) → cells_on x ≡ (λ at. blank NoAccess)
    → top_directory_of (xs ++ (x ∷ [])) i ≡ top_directory_of xs i
more_shelves xs x i e =
    ap (λ (cells : List (ℕ → Cell)). slice_index_or cells i (λ at. blank NoAccess))
    (map-append cells_on xs (x ∷ []) ∙ ap (λ (f : ℕ → Cell). map cells_on xs ++ (f ∷ [])) e)
    ∙ one_more (λ at. blank NoAccess) (map cells_on xs) i

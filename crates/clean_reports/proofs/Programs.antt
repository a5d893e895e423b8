-- What a program that was read from a file loads.
use Rattle.std.proofs.Common.{◌≡◌, ℕ, ◌+◌, ◌-◌, ◌^◌, ◌<◌, ◌≤◌, max, min, Bool, true, false, cond, refl, sym, ap}
use Rattle.std.proofs.Common.{◌∙◌}
use Rattle.std.proofs.Common.{arith, subst, List, [], ◌∷◌, length, slice_index, Option, Some, None, inl, inr, nat_lt}
use Rattle.std.proofs.Common.{le-ltb, lt-ltb}
use Rattle.std.specs.Prelude.{unwrap_or}
use Rattle.std.specs.List.{list_any}
use Rattle.std.specs.Option.{option_or}
use Rattle.std.proofs.lemmas.Bool.{cases_lt, ltb-false, or_parts}
use Rattle.guest_elf.specs.Fields.{byte_at}
use Rattle.guest_elf.specs.File.{IsImageFor, early_refusal, first_loaded, has_bad_segment, has_overlap, is_bad_segment}
use Rattle.guest_elf.specs.File.{has_bad_symbols, has_bad_table, has_bad_version, has_interpreter, is_not_class_32}
use Rattle.guest_elf.specs.File.{is_not_elf, is_not_executable, is_not_little_endian, is_not_risc_v, is_too_large}
use Rattle.guest_elf.specs.File.{late_refusal, loaded_from, loaded_in, loads_of, meets_region, ranges_meet, refusal}
use Rattle.guest_elf.specs.Images.{loaded_at}
use Rattle.guest_elf.specs.declared.fault.ElfFault.{ElfFault}
use Rattle.guest_elf.specs.declared.fault.ElfFault.TheVariants.{NotElf, NotClass32, NotLittleEndian, BadVersion}
use Rattle.guest_elf.specs.declared.fault.ElfFault.TheVariants.{NotExecutable, NotRiscV, BadTable, Interpreter}
use Rattle.guest_elf.specs.declared.fault.ElfFault.TheVariants.{BadSegment, Overlap, TooLarge, BadSymbols}
use Rattle.guest_elf.specs.declared.image.Image.{Image}
use Rattle.memory_map.specs.Regions.{first_stack_bytes, heap_size}
use Rattle.memory_map.specs.declared.regions.Regions.{Regions}
use Rattle.guest_elf.proofs.Splitting.{loads_good}
use Rattle.guest_elf.specs.Images.{profile_of}
use Rattle.guest_elf.specs.declared.profile.Profile.{Profile}
use Rattle.guest_machine.specs.Effects.{no_bytes}
use Rattle.guest_machine.specs.Run.{image_bytes, stack_start, start_state}
use Rattle.clean_reports.specs.Laws.{ProgramsAreBytes}
use Rattle.clean_reports.proofs.Memory.{written-bytes}

-- a file that isn't refused has no bad segment and none in the heap region --

neither : (a b : Option ElfFault) → option_or a b ≡ None → (a ≡ None) × (b ≡ None)
neither None b e = (refl, e)
neither (Some fault) b e = cc

-- a choice that comes to none didn't take its first branch
not-taken : (b : Bool) (fault : ElfFault) (rest : Option ElfFault) → cond b (Some fault) rest ≡ None
    → (b ≡ false) × (rest ≡ None)
not-taken true fault rest e = cc
not-taken false fault rest e = (refl, e)

-- nine conditions of which none holds
last-of-nine : (a b c d e f g h i : Bool) (p q r s t u v w x : ElfFault)
    → cond a (Some p) (cond b (Some q)
    (cond c (Some r) (cond d (Some s)
    (cond e (Some t) (cond f (Some u) (cond g (Some v) (cond h (Some w) (cond i (Some x) None)))))))) ≡ None
    → i ≡ false
last-of-nine true b c d e f g h i p q r s t u v w x none = cc
last-of-nine false true c d e f g h i p q r s t u v w x none = cc
last-of-nine false false true d e f g h i p q r s t u v w x none = cc
last-of-nine false false false true e f g h i p q r s t u v w x none = cc
last-of-nine false false false false true f g h i p q r s t u v w x none = cc
last-of-nine false false false false false true g h i p q r s t u v w x none = cc
last-of-nine false false false false false false true h i p q r s t u v w x none = cc
last-of-nine false false false false false false false true i p q r s t u v w x none = cc
last-of-nine false false false false false false false false true p q r s t u v w x none = cc
last-of-nine false false false false false false false false false p q r s t u v w x none = refl

no-bad-segment : (file : List ℕ) → early_refusal file ≡ None → has_bad_segment file ≡ false
unfolding early_refusal
no-bad-segment file none =
    last-of-nine (is_not_elf file) (is_not_class_32 file) (is_not_little_endian file) (has_bad_version file)
    (is_not_executable file)
    (is_not_risc_v file) (has_bad_table file) (has_interpreter file) (has_bad_segment file)
    NotElf NotClass32 NotLittleEndian BadVersion NotExecutable NotRiscV BadTable Interpreter BadSegment none

no-overlap : (regions : Regions) (file : List ℕ) → late_refusal regions file ≡ None → has_overlap regions file ≡ false
unfolding late_refusal
no-overlap regions file e =
    (not-taken (has_overlap regions file) Overlap
    (cond (is_too_large regions file) (Some TooLarge) (cond (has_bad_symbols file) (Some BadSymbols) None)) e).0

-- nothing is loaded there --

-- a segment with these fields that is neither bad nor meets the heap region loads nothing there
none-from : (byte : ℕ → Option ℕ) (heap vaddr filesz memsz a : ℕ) → nat_lt memsz filesz ≡ false
    → ranges_meet vaddr (vaddr + memsz) heap (heap + heap_size) ≡ false → heap ≤ a → a < heap + heap_size
    → cond (nat_lt a vaddr) None
    (cond (nat_lt a (vaddr + filesz)) (byte a) (cond (nat_lt a (vaddr + memsz)) (Some 0) None)) ≡ None
none-from byte heap vaddr filesz memsz a fits apart low high = elim (cases_lt a vaddr) [
  | inl under ↦
      ap (λ b. cond b None (cond (nat_lt a (vaddr + filesz)) (byte a) (cond (nat_lt a (vaddr + memsz)) (Some 0) None)))
      (lt-ltb a vaddr under)
  | inr over ↦
      let end : vaddr + memsz ≤ a =
      (let clear = ltb-false (max vaddr heap) (min (vaddr + memsz) (heap + heap_size)) apart in omega arith) in
      let file : vaddr + filesz ≤ a = (let few = ltb-false memsz filesz fits in omega arith) in
      ap (λ b. cond b None (cond (nat_lt a (vaddr + filesz)) (byte a) (cond (nat_lt a (vaddr + memsz)) (Some 0) None)))
      (le-ltb a vaddr over)
      ∙ ap (λ b. cond b (byte a) (cond (nat_lt a (vaddr + memsz)) (Some 0) None)) (le-ltb a (vaddr + filesz) file)
      ∙ ap (λ b. cond b (Some 0) None) (le-ltb a (vaddr + memsz) end)
]

-- segments one after another, by what each loads
module _ {X : Type 0} (loads : X → ℕ → Option ℕ) (first : List X → ℕ → Option ℕ)
    (none : (a : ℕ) → first [] a ≡ None)
    (one : (x : X) (xs : List X) (a : ℕ) → first (x ∷ xs) a ≡ option_or (loads x a) (first xs a)) where
  none-among : (bad meets : X → Bool) (a : ℕ)
      → ((x : X) → bad x ≡ false → meets x ≡ false → loads x a ≡ None) → (xs : List X)
      → list_any bad xs ≡ false → list_any meets xs ≡ false → first xs a ≡ None
  none-among bad meets a each [] good apart = none a
  none-among bad meets a each (x ∷ xs) good apart =
      let goods = or_parts (bad x) (list_any bad xs) good in
      let aparts = or_parts (meets x) (list_any meets xs) apart in
      one x xs a ∙ ap (λ o. option_or o (first xs a)) (each x goods.0 aparts.0)
      ∙ none-among bad meets a each xs goods.1 aparts.1

  byte-among : (a : ℕ) → ((x : X) → unwrap_or (loads x a) 0 < 2 ^ 8) → (xs : List X) → unwrap_or (first xs a) 0 < 2 ^ 8
  byte-among a each [] = subst (λ o. unwrap_or o 0 < 2 ^ 8) (sym (none a)) (omega arith)
  byte-among a each (x ∷ xs) =
      subst (λ o. unwrap_or o 0 < 2 ^ 8) (sym (one x xs a)) (go (loads x a) (each x) (byte-among a each xs))
    where
      go : (o : Option ℕ) → unwrap_or o 0 < 2 ^ 8 → unwrap_or (first xs a) 0 < 2 ^ 8
          → unwrap_or (option_or o (first xs a)) 0 < 2 ^ 8
      go None here rest = rest
      go (Some b) here rest = here

-- nothing of an image is in the heap region
abbrev pub LoadsNoneInHeap : Image → Type 0
LoadsNoneInHeap image =
    (a : ℕ) → (profile_of image).regions.heap ≤ a → a < (profile_of image).regions.heap + heap_size
    → loaded_at image a ≡ None

none-of : (regions : Regions) (file : List ℕ) → refusal regions file ≡ None → (a : ℕ) → regions.heap ≤ a
    → a < regions.heap + heap_size → loaded_in regions file a ≡ None
unfolding refusal has_bad_segment has_overlap loaded_in is_bad_segment meets_region loaded_from
none-of regions file accepted a low high =
    let parts = neither (early_refusal file) (late_refusal regions file) accepted in
    let apart = or_parts (list_any (meets_region regions) (loads_of regions file)) _
    (no-overlap regions file parts.1) in
    none-among (loaded_from file) (first_loaded file) (λ a. refl) (λ h hs a. refl) (is_bad_segment (length file))
    (meets_region regions) a
    (λ h good apart. none-from (λ a. Some (byte_at file (h.offset + (a - h.vaddr)))) regions.heap h.vaddr h.filesz
    h.memsz a (or_parts _ _ (or_parts _ _ good).0).0 (or_parts _ _ apart).0 low high) (loads_of regions file)
    (loads_good regions file (no-bad-segment file parts.0)) apart.0

pub none-in-heap : (profile : Profile) (file : List ℕ) (image : Image) → IsImageFor profile file image
    → LoadsNoneInHeap image
none-in-heap profile file image is a low high =
    let P : Profile → Type 0 = λ p. (p.regions.heap ≤ a) × (a < p.regions.heap + heap_size) in
    let within = subst P is.read_for (low, high) in
    is.loads a ∙ none-of profile.regions file is.accepted a within.0 within.1

-- a program begins with bytes --

byte-from : (byte : ℕ) (p q r : Bool) → byte < 2 ^ 8
    → unwrap_or (cond p None (cond q (Some byte) (cond r (Some 0) None))) 0 < 2 ^ 8
byte-from byte true q r fits = omega arith
byte-from byte false true r fits = fits
byte-from byte false false true fits = omega arith
byte-from byte false false false fits = omega arith

pub programs-are-bytes : (file : List ℕ) → ((k : ℕ) → slice_index file k < 2 ^ 8) → ProgramsAreBytes file
unfolding start_state loaded_in loaded_from byte_at
programs-are-bytes file fits profile image is =
    written-bytes (image_bytes image) (stack_start image) first_stack_bytes no_bytes
    (λ a. subst (λ o. unwrap_or o 0 < 2 ^ 8) (sym (is.loads a))
    (byte-among (loaded_from file) (first_loaded file) (λ a. refl) (λ h hs a. refl) a
    (λ h. byte-from (byte_at file (h.offset + (a - h.vaddr))) (nat_lt a h.vaddr) (nat_lt a (h.vaddr + h.filesz))
    (nat_lt a (h.vaddr + h.memsz)) (fits (h.offset + (a - h.vaddr))))
    (loads_of profile.regions file))) (λ a. omega arith)

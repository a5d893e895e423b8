-- What a segment loads, and what a list of segments does, against what the file loads.
use Rattle.std.proofs.Common.{◌≡◌, ℕ, zero, suc, ◌+◌, ◌-◌, ◌<◌, ◌≤◌, min, Bool, true, false, cond, ◌&&◌, ◌||◌, not}
use Rattle.std.proofs.Common.{nat_lt, nat_le, List, [], ◌∷◌, ◌++◌, length, drop}
use Rattle.std.proofs.Common.{map, Option, Some, None, refl, sym, ◌∙◌, ap, append_assoc, arith, slice_index}
use Rattle.std.proofs.lemmas.Bool.Decides.{nat_tests}
use Rattle.std.proofs.lemmas.List.{get_or_past, get_or-drop, get_or-take, length-drop, length-take, map-append}
use Rattle.std.proofs.lemmas.Bool.{or_parts}
use Rattle.std.specs.Option.{option_or}
use Rattle.std.specs.Prelude.{◌^◌, ◌==◌, is_some}
use Rattle.std.specs.List.{list_any}
use Rattle.guest_elf.specs.Fields.{byte_at}
use Rattle.guest_elf.specs.File.{bytes_in, content_in, first_loaded, is_bad_segment, loaded_from}
use Rattle.guest_elf.specs.Segments.{SegmentContent, content_of, has_address, loaded, loaded_by}
use Rattle.guest_elf.specs.declared.program.ProgramHeader.{ProgramHeader}
use Rattle.guest_elf.specs.declared.segment.Segment.{Segment}

-- a program header that is not bad, for a file of this length
pub record IsGood (file_length : ℕ) (header : ProgramHeader) : Type 0 where
  pub within : header.filesz ≤ header.memsz
  pub in_file : 0 < header.filesz → header.offset + header.filesz ≤ file_length
  pub in_space : header.vaddr + header.memsz ≤ 2 ^ 32

good_numbers : (file_length filesz memsz offset vaddr : ℕ) →
    (nat_lt memsz filesz || (not (filesz == 0) && nat_lt file_length (offset + filesz))
    || nat_lt (2 ^ 32) (vaddr + memsz)) ≡ false →
    (filesz ≤ memsz) × (0 < filesz → offset + filesz ≤ file_length) × (vaddr + memsz ≤ 2 ^ 32)
good_numbers file_length filesz memsz offset vaddr fine = (
  grind (arith, nat_tests),
  (λ some. grind (arith, nat_tests)),
  grind (arith, nat_tests),
)

pub good_from_test : (file_length : ℕ) (header : ProgramHeader) → is_bad_segment file_length header ≡ false
    → IsGood file_length header
unfolding is_bad_segment
good_from_test file_length header fine =
    let parts = good_numbers file_length header.filesz header.memsz header.offset header.vaddr fine in
    record { within = parts.0; in_file = parts.1; in_space = parts.2 }

-- the two tests of where an address lies agree
same_byte : (vaddr filesz memsz address here there : ℕ) → filesz ≤ memsz →
    (vaddr ≤ address → address < vaddr + filesz → here ≡ there) → (vaddr + filesz ≤ address → here ≡ 0) →
    cond (nat_le vaddr address && nat_lt address (vaddr + memsz)) (Some here) None
    ≡ cond (nat_lt address vaddr) None (cond (nat_lt address (vaddr + filesz)) (Some there)
    (cond (nat_lt address (vaddr + memsz)) (Some 0) None))
same_byte vaddr filesz memsz address here there within read past = grind (arith, nat_tests)

all_of_them : (file_length offset filesz : ℕ) → (0 < filesz → offset + filesz ≤ file_length)
    → min filesz (file_length - offset) ≡ filesz
all_of_them file_length offset zero inside = omega arith
all_of_them file_length offset (suc k) inside =
    let fits : offset + suc k ≤ file_length = inside (omega arith) in
    omega arith

-- the bytes of a good program header are as many as it says, and each is the file's
pub count_of_bytes : (file : List ℕ) (header : ProgramHeader) → is_bad_segment (length file) header ≡ false →
    length (bytes_in file header) ≡ header.filesz
count_of_bytes file header fine =
    length-take header.filesz (drop header.offset file)
    ∙ ap (min header.filesz) (length-drop header.offset file)
    ∙ all_of_them (length file) header.offset header.filesz (good_from_test (length file) header fine).in_file

byte_of_bytes : (file : List ℕ) (header : ProgramHeader) (i : ℕ) → i < header.filesz →
    slice_index (bytes_in file header) i ≡ byte_at file (header.offset + i)
unfolding byte_at
byte_of_bytes file header i below =
    get_or-take header.filesz (drop header.offset file) i 0 below ∙ get_or-drop header.offset file i 0

loaded_by_is : (file : List ℕ) (header : ProgramHeader) (segment : Segment)
    → content_of segment ≡ content_in file header →
    is_bad_segment (length file) header ≡ false → (address : ℕ)
    → loaded_by segment address ≡ loaded_from file header address
unfolding content_of content_in loaded_by loaded_from
loaded_by_is file header segment same fine address =
    let same_start : segment.vaddr ≡ header.vaddr = ap (λ (c : SegmentContent). c.vaddr) same in
    let same_size : segment.memsz ≡ header.memsz = ap (λ (c : SegmentContent). c.memsz) same in
    let same_bytes : segment.bytes.now ≡ bytes_in file header = ap (λ (c : SegmentContent). c.bytes) same in
    let here = slice_index segment.bytes.now (address - segment.vaddr) in
    let there = byte_at file (header.offset + (address - header.vaddr)) in
    let count : length segment.bytes.now ≡ header.filesz = ap length same_bytes ∙ count_of_bytes file header fine in
    ap (λ v. cond (nat_le v address && nat_lt address (v + segment.memsz)) (Some here) None) same_start
    ∙ ap (λ m. cond (nat_le header.vaddr address && nat_lt address (header.vaddr + m)) (Some here) None) same_size
    ∙ same_byte header.vaddr header.filesz header.memsz address here there
    (good_from_test (length file) header fine).within
    (λ above below. ap (λ v. slice_index segment.bytes.now (address - v)) same_start
    ∙ ap (λ bytes. slice_index bytes (address - header.vaddr)) same_bytes
    ∙ byte_of_bytes file header (address - header.vaddr) (omega arith))
    (λ above. get_or_past segment.bytes.now (address - segment.vaddr) 0 (omega arith))

-- segments whose contents are those of good program headers load what these do
pub loaded_is : (file : List ℕ) (segments : List Segment) (headers : List ProgramHeader) →
    map content_of segments ≡ map (content_in file) headers → list_any (is_bad_segment (length file)) headers ≡ false →
    (address : ℕ) → loaded segments address ≡ first_loaded file headers address
unfolding loaded
loaded_is file [] [] same fine address = refl
loaded_is file [] (header ∷ headers) same fine address = cc
loaded_is file (segment ∷ segments) [] same fine address = cc
loaded_is file (segment ∷ segments) (header ∷ headers) same fine address =
    let parts = or_parts (is_bad_segment (length file) header) (list_any (is_bad_segment (length file)) headers) fine in
    let first : content_of segment ≡ content_in file header = cc in
    let others : map content_of segments ≡ map (content_in file) headers = cc in
    ap (λ x. option_or x (loaded segments address)) (loaded_by_is file header segment first parts.0 address)
    ∙ ap (option_or (loaded_from file header address)) (loaded_is file segments headers others parts.1 address)

-- the segment of the next program header is added to the list
pub contents_more : (file : List ℕ) (segments : List Segment) (segment : Segment) (header : ProgramHeader)
    (headers later : List ProgramHeader) →
    headers ≡ header ∷ later → content_of segment ≡ content_in file header →
    map content_of (segments ++ segment ∷ []) ++ map (content_in file) later
    ≡ map content_of segments ++ map (content_in file) headers
contents_more file segments segment header headers later next same =
    ap (λ xs. xs ++ map (content_in file) later) (map-append content_of segments (segment ∷ []))
    ∙ append_assoc (map content_of segments) (content_of segment ∷ []) (map (content_in file) later)
    ∙ ap (λ (x : SegmentContent). map content_of segments ++ x ∷ map (content_in file) later) same
    ∙ ap (λ xs. map content_of segments ++ map (content_in file) xs) (sym next)

either_some : (b : Bool) (here : ℕ) (rest : Option ℕ)
    → (b || is_some rest) ≡ is_some (option_or (cond b (Some here) None) rest)
either_some true here rest = refl
either_some false here rest = refl

-- an address is loaded where a segment has it
pub any_loaded : (segments : List Segment) (address : ℕ) →
    list_any (λ segment. has_address segment address) segments ≡ is_some (loaded segments address)
unfolding loaded loaded_by
any_loaded [] address = refl
any_loaded (segment ∷ segments) address =
    ap (λ b. has_address segment address || b) (any_loaded segments address)
    ∙ either_some (has_address segment address) (slice_index segment.bytes.now (address - segment.vaddr))
    (loaded segments address)

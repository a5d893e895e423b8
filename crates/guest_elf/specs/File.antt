-- An ELF32 file as a list of bytes: its fields, the reasons to reject it, and what it loads.
-- Sources: System V ABI, edition 4.1, chapters 4 and 5 (ELF-32 object file format); RISC-V ELF psABI 1.0 (e_machine).
use Rattle.std.specs.Prelude.{◌≡◌, ℕ, ◌+◌, ◌-◌, ◌*◌, ◌^◌, ◌<◌, ◌≤◌, min, max, Bool, false, not, ◌&&◌, ◌||◌, ◌==◌}
use Rattle.std.specs.Prelude.{nat_eq, nat_le, nat_lt, if◌then◌else◌, List, [], ◌∷◌, length, take, drop, map, filter}
use Rattle.std.specs.Prelude.{flat_map, sum_by, Option, Some, None}
use Rattle.std.specs.List.{list_any, range_with_len, starts_with}
use Rattle.std.specs.Option.{option_or}
use Rattle.guest_elf.specs.declared.fault.ElfFault.{ElfFault}
use Rattle.guest_elf.specs.declared.fault.ElfFault.TheVariants.{NotElf, NotClass32, NotLittleEndian, BadVersion}
use Rattle.guest_elf.specs.declared.fault.ElfFault.TheVariants.{NotExecutable, NotRiscV, BadTable, Interpreter}
use Rattle.guest_elf.specs.declared.fault.ElfFault.TheVariants.{BadSegment, Overlap, TooLarge, BadSymbols}
use Rattle.guest_elf.specs.declared.hook.Hook.{Hook}
use Rattle.guest_elf.specs.declared.image.Image.{Image}
use Rattle.guest_elf.specs.declared.program.ProgramHeader.{ProgramHeader}
use Rattle.guest_elf.specs.Fields.{byte_at, half_at, word_at}
use Rattle.guest_elf.specs.Hooks.{hooks_by}
use Rattle.guest_elf.specs.Images.{contents_of, loaded_at, entry_of, name_at, hooks_of, profile_of}
use Rattle.guest_elf.specs.Names.{name_by, nearest}
use Rattle.guest_elf.specs.Profiles.{usual}
use Rattle.guest_elf.specs.declared.profile.Profile.{Profile}
use Rattle.guest_elf.specs.Sections.{has_bad_section_table, is_bad_table, naming_in, strings_of, symbol_table}
use Rattle.guest_elf.specs.Segments.{SegmentContent}
use Rattle.memory_map.specs.Regions.{heap_size, stack_begin, stack_end}
use Rattle.memory_map.specs.declared.regions.Regions.{Regions}
use Rattle.memory_map.specs.declared.regions.StackRegion.{StackRegion}

-- e_entry: the address of the first instruction
abbrev pub entry_in : List ℕ → ℕ
entry_in file = word_at file 24

-- e_phoff: the offset of the program header table
abbrev pub table_offset : List ℕ → ℕ
table_offset file = word_at file 28

-- e_phentsize: the size of a program header
abbrev pub header_size : List ℕ → ℕ
header_size file = half_at file 42

-- e_phnum: the number of program headers
abbrev pub header_count : List ℕ → ℕ
header_count file = half_at file 44

-- the program header that begins at an offset: p_type, p_offset, p_vaddr, p_filesz and p_memsz
unfoldable pub header_from : List ℕ → ℕ → ProgramHeader
header_from file start = record {
  kind = word_at file start;
  offset = word_at file (start + 4);
  vaddr = word_at file (start + 8);
  filesz = word_at file (start + 16);
  memsz = word_at file (start + 20);
}

-- the program header at an index
abbrev pub header_at : List ℕ → ℕ → ProgramHeader
header_at file index = header_from file (table_offset file + 32 * index)

-- the program headers, in the order of the table
abbrev pub headers_of : List ℕ → List ProgramHeader
headers_of file = map (header_at file) (range_with_len 0 (header_count file))

-- whether it is a PT_INTERP
unfoldable pub is_interpreter : ProgramHeader → Bool
is_interpreter header = header.kind == 3

-- whether it is a PT_LOAD that is not empty
unfoldable pub is_load : ProgramHeader → Bool
is_load header = header.kind == 1 && not (header.filesz == 0 && header.memsz == 0)

-- the program headers that are to be loaded, as they are in the table
abbrev pub loadable_of : List ℕ → List ProgramHeader
loadable_of file = filter is_load (headers_of file)

-- 20: fewer bytes than a header has, or a beginning other than 7F 45 4C 46
unfoldable pub is_not_elf : List ℕ → Bool
is_not_elf file = nat_lt (length file) 52 || not (starts_with nat_eq file (127 ∷ 69 ∷ 76 ∷ 70 ∷ []))

-- 21: EI_CLASS is not ELFCLASS32
unfoldable pub is_not_class_32 : List ℕ → Bool
is_not_class_32 file = not (byte_at file 4 == 1)

-- 22: EI_DATA is not ELFDATA2LSB
unfoldable pub is_not_little_endian : List ℕ → Bool
is_not_little_endian file = not (byte_at file 5 == 1)

-- 23: EI_VERSION or e_version is not EV_CURRENT
unfoldable pub has_bad_version : List ℕ → Bool
has_bad_version file = not (byte_at file 6 == 1) || not (word_at file 20 == 1)

-- 24: e_type is not ET_EXEC
unfoldable pub is_not_executable : List ℕ → Bool
is_not_executable file = not (half_at file 16 == 2)

-- 25: e_machine is not EM_RISCV
unfoldable pub is_not_risc_v : List ℕ → Bool
is_not_risc_v file = not (half_at file 18 == 243)

-- e_phnum is PN_XNUM; or there are program headers whose size is not 32, or whose table ends past the file
unfoldable pub has_bad_program_table : List ℕ → Bool
has_bad_program_table file =
    header_count file == 65535
    || (not (header_count file == 0)
    && (not (header_size file == 32)
    || nat_lt (length file) (table_offset file + 32 * header_count file)))

-- 26: the table of program headers or that of section headers is bad
unfoldable pub has_bad_table : List ℕ → Bool
has_bad_table file = has_bad_program_table file || has_bad_section_table file

-- 27: a program header of type PT_INTERP
unfoldable pub has_interpreter : List ℕ → Bool
has_interpreter file = list_any is_interpreter (headers_of file)

-- more bytes in the file than in memory, or bytes past the end of a file of that length, or an end above 2^32
unfoldable pub is_bad_segment : ℕ → ProgramHeader → Bool
is_bad_segment file_length header =
    nat_lt header.memsz header.filesz
    || (not (header.filesz == 0) && nat_lt file_length (header.offset + header.filesz))
    || nat_lt (2 ^ 32) (header.vaddr + header.memsz)

-- 28: a loaded segment is bad
unfoldable pub has_bad_segment : List ℕ → Bool
has_bad_segment file = list_any (is_bad_segment (length file)) (loadable_of file)

-- whether the stack's region is another than the usual one
unfoldable pub is_moved : StackRegion → Bool
is_moved stack = not (stack.begin == stack_begin && stack.end == stack_end)

-- whether a program header has the whole region of the stack in that part of its memory for which the file has no bytes
unfoldable pub is_around : StackRegion → ProgramHeader → Bool
is_around stack header =
    nat_le (header.vaddr + header.filesz) stack.begin && nat_le stack.end (header.vaddr + header.memsz)

-- what a program header has before the region of the stack: all its bytes from the file, and zeros after them
abbrev pub front_of : StackRegion → ProgramHeader → ProgramHeader
front_of stack header = record {
  kind = header.kind;
  offset = header.offset;
  vaddr = header.vaddr;
  filesz = header.filesz;
  memsz = stack.begin - header.vaddr;
}

-- what it has after the region: zeros
abbrev pub back_of : StackRegion → ProgramHeader → ProgramHeader
back_of stack header = record {
  kind = header.kind;
  offset = 0;
  vaddr = stack.end;
  filesz = 0;
  memsz = header.vaddr + header.memsz - stack.end;
}

-- the pieces of a program header: where it is around a region that isn't the usual one, those of its front and its back
-- that aren't empty; otherwise it is whole
unfoldable pub pieces_of : StackRegion → ProgramHeader → List ProgramHeader
pieces_of stack header =
    if is_moved stack && is_around stack header
    then filter is_load (front_of stack header ∷ back_of stack header ∷ [])
    else header ∷ []

-- what is loaded: the pieces of the program headers that are to be loaded, in the order of the table
abbrev pub loads_of : Regions → List ℕ → List ProgramHeader
loads_of regions file = flat_map (pieces_of regions.stack) (loadable_of file)

-- whether the addresses from a start up to, but not including, an end, and those of another such range have one in
-- common
abbrev pub ranges_meet : ℕ → ℕ → ℕ → ℕ → Bool
ranges_meet start end other_start other_end = nat_lt (max start other_start) (min end other_end)

-- whether a segment has an address of the heap's region or of the stack's
unfoldable pub meets_region : Regions → ProgramHeader → Bool
meets_region regions header =
    ranges_meet header.vaddr (header.vaddr + header.memsz) regions.heap (regions.heap + heap_size)
    || ranges_meet header.vaddr (header.vaddr + header.memsz) regions.stack.begin regions.stack.end

-- whether two segments have an address in common
unfoldable pub segments_meet : ProgramHeader → ProgramHeader → Bool
segments_meet header other =
    ranges_meet header.vaddr (header.vaddr + header.memsz) other.vaddr (other.vaddr + other.memsz)

-- whether any two segments of a list have an address in common
abbrev pub any_two_meet : List ProgramHeader → Bool
any_two_meet [] = false
any_two_meet (header ∷ headers) = list_any (segments_meet header) headers || any_two_meet headers

-- 29: two of what is loaded share an address, or one shares an address with the heap's region or the stack's
unfoldable pub has_overlap : Regions → List ℕ → Bool
has_overlap regions file =
    list_any (meets_region regions) (loads_of regions file) || any_two_meet (loads_of regions file)

-- 30: the file has, or its segments in memory have, more than 16 MiB
unfoldable pub is_too_large : Regions → List ℕ → Bool
is_too_large regions file =
    nat_lt 16777216 (length file) || nat_lt 16777216 (sum_by (λ header. header.memsz) (loads_of regions file))

-- 31: the symbol table is damaged, or a function's name has no end
unfoldable pub has_bad_symbols : List ℕ → Bool
has_bad_symbols file = is_bad_table file (symbol_table file)

-- the first condition that holds, of the conditions 20 to 28, which are tested before any memory is allocated
unfoldable pub early_refusal : List ℕ → Option ElfFault
early_refusal file =
    if is_not_elf file then Some NotElf
    else if is_not_class_32 file then Some NotClass32
    else if is_not_little_endian file then Some NotLittleEndian
    else if has_bad_version file then Some BadVersion
    else if is_not_executable file then Some NotExecutable
    else if is_not_risc_v file then Some NotRiscV
    else if has_bad_table file then Some BadTable
    else if has_interpreter file then Some Interpreter
    else if has_bad_segment file then Some BadSegment
    else None

-- the first condition that holds, of the conditions 29 to 31
unfoldable pub late_refusal : Regions → List ℕ → Option ElfFault
late_refusal regions file =
    if has_overlap regions file then Some Overlap
    else if is_too_large regions file then Some TooLarge
    else if has_bad_symbols file then Some BadSymbols
    else None

-- why a file is rejected where heap and stack have these regions: the first of the conditions 20 to 31 that holds
unfoldable pub refusal : Regions → List ℕ → Option ElfFault
refusal regions file = option_or (early_refusal file) (late_refusal regions file)

-- the bytes of a program header in the file: p_filesz of them from p_offset on
abbrev pub bytes_in : List ℕ → ProgramHeader → List ℕ
bytes_in file header = take header.filesz (drop header.offset file)

-- the segment of a program header: its bytes from the file at p_vaddr, and zeros after them up to p_memsz
unfoldable pub content_in : List ℕ → ProgramHeader → SegmentContent
content_in file header = record { vaddr = header.vaddr; memsz = header.memsz; bytes = bytes_in file header }

-- the segments of the file: one for each PT_LOAD that is not empty, or for each of its pieces, in the order of the
-- table
unfoldable pub contents_in : Regions → List ℕ → List SegmentContent
contents_in regions file = map (content_in file) (loads_of regions file)

-- the byte that a program header loads at an address: the file's up to p_filesz, 0 from there up to p_memsz
unfoldable pub loaded_from : List ℕ → ProgramHeader → ℕ → Option ℕ
loaded_from file header address =
    if nat_lt address header.vaddr then None
    else if nat_lt address (header.vaddr + header.filesz)
    then Some (byte_at file (header.offset + (address - header.vaddr)))
    else if nat_lt address (header.vaddr + header.memsz) then Some 0
    else None

-- the byte at an address, of the first of the program headers that load one there
abbrev pub first_loaded : List ℕ → List ProgramHeader → ℕ → Option ℕ
first_loaded file [] address = None
first_loaded file (header ∷ headers) address =
    option_or (loaded_from file header address) (first_loaded file headers address)

-- the byte that the file loads at an address
unfoldable pub loaded_in : Regions → List ℕ → ℕ → Option ℕ
loaded_in regions file address = first_loaded file (loads_of regions file) address

-- the file has an ELF header
pub record HasHeader (file : List ℕ) : Type 0 where
  pub long : 52 ≤ length file

-- the table of program headers lies in the file
pub record HasTable (file : List ℕ) : Type 0 where
  pub long : 52 ≤ length file
  pub inside : 0 < header_count file → table_offset file + 32 * header_count file ≤ length file

-- the bytes of each loaded segment lie in the file, and its addresses below 2^32
pub record HasSegments (file : List ℕ) : Type 0 where
  pub good : list_any (is_bad_segment (length file)) (loadable_of file) ≡ false

-- the name of the function at an address, by the naming symbols of the file in the order of their table
unfoldable pub name_in : List ℕ → ℕ → List ℕ
name_in file address =
    name_by (strings_of file (symbol_table file)) address (nearest (naming_in file (symbol_table file)) address)

-- the functions of the heap that the naming symbols of the file name
unfoldable pub hooks_in : List ℕ → List (ℕ × Hook)
hooks_in file = hooks_by (strings_of file (symbol_table file)) (naming_in file (symbol_table file))

-- the image is the file's, for a profile: the file isn't rejected, and the image has the file's segments in their
-- order, loads what the file does, begins where the file does, names what it names, has its functions of the heap and
-- has this profile
pub record IsImageFor (profile : Profile) (file : List ℕ) (image : Image) : Type 0 where
  pub accepted : refusal profile.regions file ≡ None
  pub segments : contents_of image ≡ contents_in profile.regions file
  pub loads : (address : ℕ) → loaded_at image address ≡ loaded_in profile.regions file address
  pub entry : entry_of image ≡ entry_in file
  pub names : (address : ℕ) → name_at image address ≡ name_in file address
  pub hooks : hooks_of image ≡ hooks_in file
  pub read_for : profile_of image ≡ profile

-- for the usual profile
abbrev pub IsImageOf : List ℕ → Image → Type 0
IsImageOf file image = IsImageFor usual file image

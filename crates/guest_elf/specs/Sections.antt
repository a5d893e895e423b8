-- The sections of an ELF32 file, its symbol table and its string table.
-- Source: System V ABI, edition 4.1, chapter 4, "Sections", "String Table" and "Symbol Table".
use Rattle.std.specs.Prelude.{ℕ, ◌+◌, ◌*◌, ◌/◌, ◌%◌, ◌<◌, ◌≤◌, Bool, false, not, ◌&&◌, ◌||◌, ◌==◌, nat_le, nat_lt}
use Rattle.std.specs.Prelude.{if◌then◌else◌, List, [], length, drop, take, map, filter, find, slice_index, Option, Some}
use Rattle.std.specs.Prelude.{None}
use Rattle.std.specs.List.{list_any, range_with_len, before_first}
use Rattle.guest_elf.specs.Fields.{byte_at, half_at, word_at}
use Rattle.guest_elf.specs.declared.sections.SectionHeader.{SectionHeader}
use Rattle.guest_elf.specs.declared.symbols.Symbol.{Symbol}

-- e_shoff: the offset of the section header table, or 0 if there is none
abbrev pub section_table_offset : List ℕ → ℕ
section_table_offset file = word_at file 32

-- e_shentsize: the size of a section header
abbrev pub section_header_size : List ℕ → ℕ
section_header_size file = half_at file 46

-- the number of section headers: e_shnum, if there is a table
unfoldable pub section_count : List ℕ → ℕ
section_count file = if section_table_offset file == 0 then 0 else half_at file 48

-- the section header that begins at an offset: sh_type, sh_offset, sh_size, sh_link and sh_entsize
unfoldable pub section_from : List ℕ → ℕ → SectionHeader
section_from file start = record {
  kind = word_at file (start + 4);
  offset = word_at file (start + 16);
  size = word_at file (start + 20);
  link = word_at file (start + 24);
  entry_size = word_at file (start + 36);
}

-- the section header at an index
abbrev pub section_at : List ℕ → ℕ → SectionHeader
section_at file index = section_from file (section_table_offset file + 40 * index)

-- the section headers, in the order of the table
abbrev pub sections_of : List ℕ → List SectionHeader
sections_of file = map (section_at file) (range_with_len 0 (section_count file))

-- there are sections whose headers' size is not 40, or whose table ends past the file
unfoldable pub has_bad_section_table : List ℕ → Bool
has_bad_section_table file =
    not (section_count file == 0)
    && (not (section_header_size file == 40)
    || nat_lt (length file) (section_table_offset file + 40 * section_count file))

-- whether it is an SHT_SYMTAB
unfoldable pub is_symbol_table : SectionHeader → Bool
is_symbol_table section = section.kind == 2

-- the symbol table: the first section of that type
unfoldable pub symbol_table : List ℕ → Option SectionHeader
symbol_table file = find is_symbol_table (sections_of file)

-- the symbol that begins at an offset: st_name, st_value, st_size, st_info and st_shndx
unfoldable pub symbol_from : List ℕ → ℕ → Symbol
symbol_from file start = record {
  name = word_at file start;
  value = word_at file (start + 4);
  size = word_at file (start + 8);
  info = byte_at file (start + 12);
  section = half_at file (start + 14);
}

-- the symbol at an index of a table
abbrev pub symbol_at : List ℕ → SectionHeader → ℕ → Symbol
symbol_at file table index = symbol_from file (table.offset + 16 * index)

-- the symbols of a table, in its order
abbrev pub symbols_in : List ℕ → SectionHeader → List Symbol
symbols_in file table = map (symbol_at file table) (range_with_len 0 (table.size / 16))

-- the string table of a symbol table: the bytes of the section that its sh_link numbers
unfoldable pub strings_in : List ℕ → SectionHeader → List ℕ
strings_in file table = take (section_at file table.link).size (drop (section_at file table.link).offset file)

-- whether a byte ends a name
abbrev pub is_zero : ℕ → Bool
is_zero byte = byte == 0

-- the name that begins at an offset of a string table: the bytes before the next zero byte
unfoldable pub name_from : List ℕ → ℕ → List ℕ
name_from strings start = before_first is_zero (drop start strings)

-- whether it is an STT_FUNC (the low four bits of st_info) of a section (st_shndx is not SHN_UNDEF)
unfoldable pub is_function : Symbol → Bool
is_function symbol = symbol.info % 16 == 2 && not (symbol.section == 0)

-- whether it is an STT_NOTYPE of a section: a label of assembly, unless that gives it a type
unfoldable pub is_label : Symbol → Bool
is_label symbol = symbol.info % 16 == 0 && not (symbol.section == 0)

-- whether it is a function with a name that is not empty
unfoldable pub is_naming : List ℕ → Symbol → Bool
is_naming strings symbol = is_function symbol && not (slice_index strings symbol.name == 0)

-- a function whose name has no zero byte from its beginning to the string table's end, and so none at or past that end
unfoldable pub has_bad_name : List ℕ → Symbol → Bool
has_bad_name strings symbol = is_function symbol && not (list_any is_zero (drop symbol.name strings))

-- sh_entsize is not 16, or the size no multiple of it, or the table ends past the file;
-- or sh_link numbers no section, or the string table ends past the file
unfoldable pub is_damaged : List ℕ → SectionHeader → Bool
is_damaged file table =
    not (table.entry_size == 16) || not (table.size % 16 == 0)
    || nat_lt (length file) (table.offset + table.size)
    || nat_le (section_count file) table.link
    || nat_lt (length file) ((section_at file table.link).offset + (section_at file table.link).size)

-- whether a file's symbol table, if it has one, is damaged or has a function with a bad name
unfoldable pub is_bad_table : List ℕ → Option SectionHeader → Bool
is_bad_table file None = false
is_bad_table file (Some table) =
    is_damaged file table || list_any (has_bad_name (strings_in file table)) (symbols_in file table)

-- the naming symbols of a file's symbol table, if it has one, in the table's order
unfoldable pub naming_in : List ℕ → Option SectionHeader → List Symbol
naming_in file None = []
naming_in file (Some table) = filter (is_naming (strings_in file table)) (symbols_in file table)

-- the string table of a file's symbol table, if it has one
unfoldable pub strings_of : List ℕ → Option SectionHeader → List ℕ
strings_of file None = []
strings_of file (Some table) = strings_in file table

-- the table of section headers lies in the file
pub record HasSections (file : List ℕ) : Type 0 where
  pub long : 52 ≤ length file
  pub inside : 0 < section_count file → section_table_offset file + 40 * section_count file ≤ length file

-- a symbol table and its string table lie in the file
pub record HasSymbols (file : List ℕ) (table : SectionHeader) : Type 0 where
  pub inside : table.offset + table.size ≤ length file
  pub linked : table.link < section_count file
  pub strings : (section_at file table.link).offset + (section_at file table.link).size ≤ length file

-- the file's symbol table, if it has one, and its string table lie in the file
abbrev pub HasNames : List ℕ → Option SectionHeader → Type 0
HasNames file None = Unit {0}
HasNames file (Some table) = HasSymbols file table

-- Numbers in a file, which is a list of bytes (System V ABI, edition 4.1, chapter 4, "Data Representation").
use Rattle.std.specs.Prelude.{ℕ, List, drop, slice_index}
use Rattle.byteorder.specs.Endian.{little_number}

-- one byte (unsigned char, "Data Representation")
unfoldable pub byte_at : List ℕ → ℕ → ℕ
byte_at file offset = slice_index file offset

-- two bytes, the lowest first (Elf32_Half under ELFDATA2LSB)
unfoldable pub half_at : List ℕ → ℕ → ℕ
half_at file offset = little_number 2 (drop offset file)

-- four bytes, the lowest first (Elf32_Word, Elf32_Addr and Elf32_Off under ELFDATA2LSB)
unfoldable pub word_at : List ℕ → ℕ → ℕ
word_at file offset = little_number 4 (drop offset file)

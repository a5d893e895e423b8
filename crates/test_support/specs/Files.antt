-- The file of a program of words (System V ABI, edition 4.1, chapter 4, "ELF Header", and chapter 5, "Program Header").
use Rattle.std.specs.Prelude.{ℕ, ◌-◌, ◌*◌, ◌^◌, List, [], ◌∷◌, ◌++◌, length, min}
use Rattle.std.specs.Int.{w32, to_le_bytes}

-- the bytes of words, the lowest byte of each first
unfoldable pub bytes_of : List ℕ → List ℕ
bytes_of [] = []
bytes_of (word ∷ words) = to_le_bytes w32 word ++ bytes_of words

-- the size of n words, as a field of the file has it
abbrev pub words_size : ℕ → ℕ
words_size n = min (4 * n) (2 ^ 32 - 1)

-- e_ident to e_shstrndx: an executable for RISC-V, its entry 0x10000, one program header at offset 52 and no sections
abbrev pub elf_header : List ℕ
elf_header =
    0x7F ∷ 0x45 ∷ 0x4C ∷ 0x46 ∷ 1 ∷ 1 ∷ 1 ∷ 0 ∷ 0 ∷ 0 ∷ 0 ∷ 0 ∷ 0 ∷ 0 ∷ 0 ∷ 0
    ∷ 2 ∷ 0 ∷ 0xF3 ∷ 0 ∷ 1 ∷ 0 ∷ 0 ∷ 0 ∷ 0 ∷ 0 ∷ 1 ∷ 0 ∷ 0x34 ∷ 0 ∷ 0 ∷ 0
    ∷ 0 ∷ 0 ∷ 0 ∷ 0 ∷ 0 ∷ 0 ∷ 0 ∷ 0 ∷ 0x34 ∷ 0 ∷ 0x20 ∷ 0 ∷ 1 ∷ 0 ∷ 0 ∷ 0 ∷ 0 ∷ 0 ∷ 0 ∷ 0 ∷ []

-- p_type to p_paddr: PT_LOAD, from offset 84, at 0x10000
abbrev pub load_front : List ℕ
load_front = 1 ∷ 0 ∷ 0 ∷ 0 ∷ 0x54 ∷ 0 ∷ 0 ∷ 0 ∷ 0 ∷ 0 ∷ 1 ∷ 0 ∷ 0 ∷ 0 ∷ 1 ∷ 0 ∷ []

-- p_flags: readable and executable; p_align: 4
abbrev pub load_back : List ℕ
load_back = 5 ∷ 0 ∷ 0 ∷ 0 ∷ 4 ∷ 0 ∷ 0 ∷ 0 ∷ []

-- the file of these words, with this number of bytes in memory
unfoldable pub file_of : List ℕ → ℕ → List ℕ
file_of words memsz =
    elf_header ++ load_front ++ to_le_bytes w32 (words_size (length words)) ++ to_le_bytes w32 memsz ++ load_back
    ++ bytes_of words

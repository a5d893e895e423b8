-- What some bits of a word rule out may be left out of the table: the lemmas that the branches of the decoder use.
use Rattle.std.proofs.Common.{◌≡◌, ℕ, ◌<◌, ◌^◌, Bool, List, [], ◌∷◌, ◌++◌, Option, None, bit_and, filter, ◌∙◌, refl}
use Rattle.std.specs.Prelude.{find, ◌==◌}
use Rattle.std.specs.Option.{option_map}
use Rattle.rv_fields.proofs.BitLemmas.{Avoids, whole_word}
use Rattle.rv_fields.proofs.Tables.{Table, plain_table, reads as reads_of, may_have as may_have_of}
use Rattle.rv_fields.proofs.Tables.{reads-filter, reads-fixes}
use Rattle.rv_decode.specs.declared.Insn.{Insn}
use Rattle.rv_decode.specs.Table.{Row, rows, upper_rows, jump_rows, branch_rows, load_rows, store_rows, immediate_rows}
use Rattle.rv_decode.specs.Table.{shift_rows, register_rows, multiply_rows, fence_rows, environment_rows, insn, insn_of}

-- the table, as the lemmas on tables take it
abbrev pub listing : Table Row Insn
listing = plain_table (λ row. row.mask) (λ row. row.value) insn_of

-- the instruction that these rows read from the word
abbrev pub reads : List Row → ℕ → Option Insn
reads = reads_of listing

-- a word whose bits m spell k may have the fixed bits of the row
abbrev pub may_have : ℕ → ℕ → Row → Bool
may_have = may_have_of listing

-- the instruction of a word, by the rows that its bits m leave
pub insn_by : (word m k : ℕ) → bit_and word m ≡ k → insn word ≡ reads (filter (may_have m k) rows) word
unfolding insn
insn_by word m k bits = reads-filter listing rows word m k bits

-- the opcodes of the table
abbrev pub opcodes : List ℕ
opcodes = 0x37 ∷ 0x17 ∷ 0x6F ∷ 0x67 ∷ 0x63 ∷ 0x03 ∷ 0x23 ∷ 0x13 ∷ 0x33 ∷ 0x0F ∷ 0x73 ∷ []

-- opcode 0x13 with each funct3
abbrev pub funct3_values : List ℕ
funct3_values = 0x0013 ∷ 0x1013 ∷ 0x2013 ∷ 0x3013 ∷ 0x4013 ∷ 0x5013 ∷ 0x6013 ∷ 0x7013 ∷ []

-- opcode 0x33 with each funct7 that it has
abbrev pub funct7_values : List ℕ
funct7_values = 0x00000033 ∷ 0x40000033 ∷ 0x02000033 ∷ []

-- ---- what the bits that the code tests leave of the table: `insn_by` at these bits, with the filter computed

pub insn_lui : (word : ℕ) → bit_and word 0x7F ≡ 0x37 → insn word ≡ reads (filter (may_have 0x7F 0x37) upper_rows) word
unfolding rows
insn_lui word bits = insn_by word 0x7F 0x37 bits

pub insn_auipc : (word : ℕ) → bit_and word 0x7F ≡ 0x17 → insn word ≡ reads (filter (may_have 0x7F 0x17) upper_rows) word
unfolding rows
insn_auipc word bits = insn_by word 0x7F 0x17 bits

pub insn_jal : (word : ℕ) → bit_and word 0x7F ≡ 0x6F → insn word ≡ reads (filter (may_have 0x7F 0x6F) jump_rows) word
unfolding rows
insn_jal word bits = insn_by word 0x7F 0x6F bits

pub insn_jalr : (word : ℕ) → bit_and word 0x7F ≡ 0x67 → insn word ≡ reads (filter (may_have 0x7F 0x67) jump_rows) word
unfolding rows
insn_jalr word bits = insn_by word 0x7F 0x67 bits

pub insn_branch : (word : ℕ) → bit_and word 0x7F ≡ 0x63 → insn word ≡ reads branch_rows word
unfolding rows
insn_branch word bits = insn_by word 0x7F 0x63 bits

pub insn_load : (word : ℕ) → bit_and word 0x7F ≡ 0x03 → insn word ≡ reads load_rows word
unfolding rows
insn_load word bits = insn_by word 0x7F 0x03 bits

pub insn_store : (word : ℕ) → bit_and word 0x7F ≡ 0x23 → insn word ≡ reads store_rows word
unfolding rows
insn_store word bits = insn_by word 0x7F 0x23 bits

pub insn_immediate : (word : ℕ) → bit_and word 0x7F ≡ 0x13 → insn word ≡ reads (immediate_rows ++ shift_rows) word
unfolding rows
insn_immediate word bits = insn_by word 0x7F 0x13 bits

-- a word of opcode 0x13 with none of the eight funct3 (there is no such word)
pub insn_immediate_other : (word : ℕ) → bit_and word 0x7F ≡ 0x13 → Avoids (bit_and word 0x707F) funct3_values
    → insn word ≡ None
insn_immediate_other word bits avoids =
    insn_immediate word bits ∙ reads-fixes listing (immediate_rows ++ shift_rows) word 0x707F funct3_values avoids refl

pub insn_left_shift : (word : ℕ) → bit_and word 0x707F ≡ 0x1013
    → insn word ≡ reads (filter (may_have 0x707F 0x1013) shift_rows) word
unfolding rows
insn_left_shift word bits = insn_by word 0x707F 0x1013 bits

pub insn_right_shift : (word : ℕ) → bit_and word 0x707F ≡ 0x5013
    → insn word ≡ reads (filter (may_have 0x707F 0x5013) shift_rows) word
unfolding rows
insn_right_shift word bits = insn_by word 0x707F 0x5013 bits

pub insn_register : (word : ℕ) → bit_and word 0x7F ≡ 0x33 → insn word ≡ reads (register_rows ++ multiply_rows) word
unfolding rows
insn_register word bits = insn_by word 0x7F 0x33 bits

-- a word of opcode 0x33 with another funct7
pub insn_register_other : (word : ℕ) → bit_and word 0x7F ≡ 0x33 → Avoids (bit_and word 0xFE00007F) funct7_values
    → insn word ≡ None
insn_register_other word bits avoids =
    insn_register word bits
    ∙ reads-fixes listing (register_rows ++ multiply_rows) word 0xFE00007F funct7_values avoids refl

pub insn_base : (word : ℕ) → bit_and word 0xFE00007F ≡ 0x33
    → insn word ≡ reads (filter (may_have 0xFE00007F 0x33) register_rows) word
unfolding rows
insn_base word bits = insn_by word 0xFE00007F 0x33 bits

pub insn_alternate : (word : ℕ) → bit_and word 0xFE00007F ≡ 0x40000033
    → insn word ≡ reads (filter (may_have 0xFE00007F 0x40000033) register_rows) word
unfolding rows
insn_alternate word bits = insn_by word 0xFE00007F 0x40000033 bits

pub insn_multiply : (word : ℕ) → bit_and word 0xFE00007F ≡ 0x02000033 → insn word ≡ reads multiply_rows word
unfolding rows
insn_multiply word bits = insn_by word 0xFE00007F 0x02000033 bits

pub insn_fence : (word : ℕ) → bit_and word 0x7F ≡ 0x0F → insn word ≡ reads fence_rows word
unfolding rows
insn_fence word bits = insn_by word 0x7F 0x0F bits

-- all bits of a word are fixed: the mask leaves a 32-bit word as it is
pub insn_environment : (word : ℕ) → word < 2 ^ 32 → bit_and word 0x7F ≡ 0x73
    → insn word ≡ option_map (λ row. insn_of row word) (find (λ row. word == row.value) environment_rows)
unfolding rows
insn_environment word small bits = rw (whole_word word small) at (insn_by word 0x7F 0x73 bits)

-- a word with another opcode
pub insn_other : (word : ℕ) → Avoids (bit_and word 0x7F) opcodes → insn word ≡ None
unfolding rows insn
insn_other word avoids = reads-fixes listing rows word 0x7F opcodes avoids refl

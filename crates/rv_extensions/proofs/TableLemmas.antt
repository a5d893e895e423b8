-- What some bits of a word rule out may be left out of the table: the lemmas that the branches of the decoder use.
use Rattle.std.proofs.Common.{◌≡◌, ℕ, ◌<◌, ◌^◌, Bool, false, List, [], ◌∷◌, Option, None, bit_and, filter, ◌∙◌, refl}
use Rattle.std.specs.Prelude.{find, ◌==◌}
use Rattle.std.specs.Option.{option_map}
use Rattle.std.proofs.lemmas.Bool.{ne_eqb}
use Rattle.rv_fields.proofs.BitLemmas.{narrow_bits, Avoids, whole_word}
use Rattle.rv_fields.proofs.Tables.{Table, plain_table, reads as reads_of, may_have as may_have_of}
use Rattle.rv_fields.proofs.Tables.{reads-filter, reads-fixes}
use Rattle.rv_extensions.specs.declared.Extension.{Extension}
use Rattle.rv_extensions.specs.Table.{Row, rows, load_rows, update_rows, system_rows, fence_rows}
use Rattle.rv_extensions.specs.Table.{extension_of, extension}

-- the table, as the lemmas on tables take it
abbrev pub listing : Table Row Extension
listing = plain_table (λ row. row.mask) (λ row. row.value) extension_of

-- the instruction that these rows read from the word
abbrev pub reads : List Row → ℕ → Option Extension
reads = reads_of listing

-- a word whose bits m are k may have the fixed bits of the row
abbrev pub may_have : ℕ → ℕ → Row → Bool
may_have = may_have_of listing

-- the instruction of a word, by the rows that its bits m leave
pub extension_by : (word m k : ℕ) → bit_and word m ≡ k → extension word ≡ reads (filter (may_have m k) rows) word
unfolding extension
extension_by word m k at = reads-filter listing rows word m k at

-- the opcodes of the table
abbrev pub opcodes : List ℕ
opcodes = 0x2F ∷ 0x73 ∷ 0x0F ∷ []

-- ---- what the bits that the code tests leave of the table: `extension_by` at these bits, with the filter computed

-- a word without the fixed bits of the load, of which its funct5 are some
pub extension_update : (word : ℕ) → bit_and word 0x7F ≡ 0x2F → (bit_and word 0xF800707F ≡ 0x1000202F → ⊥)
    → extension word ≡ reads update_rows word
unfolding rows
extension_update word at other =
    let lacks : (bit_and word 0xF9F0707F == 0x1000202F) ≡ false = ne_eqb (bit_and word 0xF9F0707F) 0x1000202F
    (λ has. other (narrow_bits word 0xF9F0707F 0xF800707F 0x1000202F refl has)) in
    extension_by word 0x7F 0x2F at ∙ rw lacks refl

pub extension_load : (word : ℕ) → bit_and word 0xF800707F ≡ 0x1000202F
    → extension word ≡ reads load_rows word
unfolding rows
extension_load word at = extension_by word 0xF800707F 0x1000202F at

pub extension_system : (word : ℕ) → bit_and word 0x7F ≡ 0x73 → extension word ≡ reads system_rows word
unfolding rows
extension_system word at = extension_by word 0x7F 0x73 at

pub extension_fence : (word : ℕ) → bit_and word 0x7F ≡ 0x0F → extension word ≡ reads fence_rows word
unfolding rows
extension_fence word at = extension_by word 0x7F 0x0F at

-- all bits of a word are fixed: the mask leaves a 32-bit word as it is
pub extension_wait : (word : ℕ) → word < 2 ^ 32 → bit_and word 0x707F ≡ 0x0073
    → extension word
    ≡ option_map (λ row. extension_of row word)
    (find (λ row. word == row.value) (filter (may_have 0x707F 0x0073) system_rows))
unfolding rows
extension_wait word small at = rw (whole_word word small) at (extension_by word 0x707F 0x0073 at)

-- the fixed bits of SC and the AMOs
abbrev pub update_values : List ℕ
update_values =
    0x1800202F ∷ 0x0800202F ∷ 0x0000202F ∷ 0x2000202F ∷ 0x6000202F ∷ 0x4000202F ∷ 0x8000202F ∷ 0xA000202F ∷ 0xC000202F
    ∷ 0xE000202F ∷ []

-- a word of opcode 0x2F with other ones
pub extension_other_update : (word : ℕ) → bit_and word 0x7F ≡ 0x2F → (bit_and word 0xF800707F ≡ 0x1000202F → ⊥)
    → Avoids (bit_and word 0xF800707F) update_values → extension word ≡ None
extension_other_update word at other avoids =
    extension_update word at other ∙ reads-fixes listing update_rows word 0xF800707F update_values avoids refl

-- opcode 0x73 with each funct3 that has a row
abbrev pub system_values : List ℕ
system_values = 0x0073 ∷ 0x1073 ∷ 0x2073 ∷ 0x3073 ∷ 0x5073 ∷ 0x6073 ∷ 0x7073 ∷ []

-- a word of opcode 0x73 with another funct3
pub extension_other_system : (word : ℕ) → bit_and word 0x7F ≡ 0x73 → Avoids (bit_and word 0x707F) system_values
    → extension word ≡ None
extension_other_system word at avoids =
    extension_system word at ∙ reads-fixes listing system_rows word 0x707F system_values avoids refl

-- a word with another opcode
pub extension_other : (word : ℕ) → Avoids (bit_and word 0x7F) opcodes → extension word ≡ None
unfolding rows extension
extension_other word avoids = reads-fixes listing rows word 0x7F opcodes avoids refl

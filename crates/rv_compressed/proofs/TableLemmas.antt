-- What some bits of a half rule out may be left out of the table: the lemmas that the branches of the decoder use.
use Rattle.std.proofs.Common.{◌≡◌, ℕ, Bool, true, false, List, [], ◌∷◌, Option, Some, None, bit_and, filter, ◌∙◌, refl}
use Rattle.std.specs.Prelude.{◌==◌, not}
use Rattle.std.specs.List.{list_any}
use Rattle.std.proofs.lemmas.Bool.{ne_eqb, eq-eqb, eqb-true, and_parts}
use Rattle.rv_fields.proofs.BitLemmas.{narrow_bits, join, Avoids}
use Rattle.rv_fields.proofs.Tables.{Table, reads as reads_of, may_have as may_have_of, reads-filter, reads-fixes}
use Rattle.rv_decode.specs.declared.Insn.{Insn}
use Rattle.rv_decode.specs.declared.Op.TheVariants as ops
use Rattle.rv_compressed.specs.Operands.{rd, rs2, imm_upper}
use Rattle.rv_compressed.specs.Table.{Row, rows, rows_0, immediate_rows, upper_rows, short_rows, jump_rows, rows_1}
use Rattle.rv_compressed.specs.Table.{stack_rows, rows_2, register_rows, has, is_of, insn_with, insn_of, expansion}
use Rattle.rv_compressed.specs.Laws.{IsOf}

-- a half of a row has its fixed bits
pub IsOf-fixed : (half : ℕ) (row : Row) → IsOf half row → bit_and half row.mask ≡ row.value
IsOf-fixed half row of =
    eqb-true (bit_and half row.mask) row.value (and_parts (bit_and half row.mask == row.value)
    (not (list_any (has half) row.exceptions)) of).0

-- the table, as the lemmas on tables take it
abbrev pub listing : Table Row Insn
listing =
    record {
      mask = λ row. row.mask;
      value = λ row. row.value;
      IsOf = IsOf;
      fixed = IsOf-fixed;
      is_of = is_of;
      decides = λ half row. (λ of. of, λ of. of);
      read = insn_of;
    }

-- the instruction that these rows read from the half
abbrev pub reads : List Row → ℕ → Option Insn
reads = reads_of listing

-- a half whose bits m are k may have the fixed bits of the row
abbrev pub may_have : ℕ → ℕ → Row → Bool
may_have = may_have_of listing

-- the instruction of a half, by the rows that its bits m leave
pub expansion_by : (half m k : ℕ) → bit_and half m ≡ k → expansion half ≡ reads (filter (may_have m k) rows) half
unfolding expansion
expansion_by half m k at = reads-filter listing rows half m k at

-- ---- values of the bits that the code tests

-- the quadrants of RV32C
abbrev pub quadrants : List ℕ
quadrants = 0 ∷ 1 ∷ 2 ∷ []

-- quadrant 0 with each funct3 that has a row
abbrev pub values_0 : List ℕ
values_0 = 0x0000 ∷ 0x4000 ∷ 0xC000 ∷ []

-- quadrant 1 with each funct3
abbrev pub values_1 : List ℕ
values_1 = 0x0001 ∷ 0x2001 ∷ 0x4001 ∷ 0x6001 ∷ 0x8001 ∷ 0xA001 ∷ 0xC001 ∷ 0xE001 ∷ []

-- quadrant 1 with funct3 100, and each value of bits 11 and 10
abbrev pub short_values : List ℕ
short_values = 0x8001 ∷ 0x8401 ∷ 0x8801 ∷ 0x8C01 ∷ []

-- quadrant 2 with each funct3 that has a row
abbrev pub values_2 : List ℕ
values_2 = 0x0002 ∷ 0x4002 ∷ 0x8002 ∷ 0xC002 ∷ []

-- quadrant 2 with funct3 100, and each value of bit 12
abbrev pub register_values : List ℕ
register_values = 0x8002 ∷ 0x9002 ∷ []

-- ---- what the bits that the code tests leave of the table: `expansion_by` at these bits, with the filter computed

pub expansion_addi4spn : (half : ℕ) → bit_and half 0xE003 ≡ 0x0000
    → expansion half ≡ reads (filter (may_have 0xE003 0x0000) rows_0) half
unfolding rows
expansion_addi4spn half at = expansion_by half 0xE003 0x0000 at

pub expansion_lw : (half : ℕ) → bit_and half 0xE003 ≡ 0x4000
    → expansion half ≡ reads (filter (may_have 0xE003 0x4000) rows_0) half
unfolding rows
expansion_lw half at = expansion_by half 0xE003 0x4000 at

pub expansion_sw : (half : ℕ) → bit_and half 0xE003 ≡ 0xC000
    → expansion half ≡ reads (filter (may_have 0xE003 0xC000) rows_0) half
unfolding rows
expansion_sw half at = expansion_by half 0xE003 0xC000 at

pub expansion_addi : (half : ℕ) → bit_and half 0xE003 ≡ 0x0001
    → expansion half ≡ reads (filter (may_have 0xE003 0x0001) immediate_rows) half
unfolding rows
expansion_addi half at = expansion_by half 0xE003 0x0001 at

pub expansion_jal : (half : ℕ) → bit_and half 0xE003 ≡ 0x2001
    → expansion half ≡ reads (filter (may_have 0xE003 0x2001) immediate_rows) half
unfolding rows
expansion_jal half at = expansion_by half 0xE003 0x2001 at

pub expansion_li : (half : ℕ) → bit_and half 0xE003 ≡ 0x4001
    → expansion half ≡ reads (filter (may_have 0xE003 0x4001) immediate_rows) half
unfolding rows
expansion_li half at = expansion_by half 0xE003 0x4001 at

pub expansion_upper : (half : ℕ) → bit_and half 0xE003 ≡ 0x6001 → expansion half ≡ reads upper_rows half
unfolding rows
expansion_upper half at = expansion_by half 0xE003 0x6001 at

-- C.LUI: with rd = 2 the half would have the fixed bits of C.ADDI16SP
pub expansion_lui : (half : ℕ) → bit_and half 0xE003 ≡ 0x6001 → (bit_and half 0xEF83 ≡ 0x6101 → ⊥)
    → (bit_and half 0x107C ≡ 0 → ⊥) → expansion half ≡ Some (insn_with ops.Lui (rd half) 0 0 (imm_upper half))
unfolding rows
expansion_lui half at other has_imm =
    let adds : (bit_and half 0xEF83 == 0x6101) ≡ false = ne_eqb (bit_and half 0xEF83) 0x6101 other in
    let loads : (bit_and half 0xE003 == 0x6001) ≡ true = eq-eqb (bit_and half 0xE003) 0x6001 at in
    let lacks : (bit_and half 0x107C == 0) ≡ false = ne_eqb (bit_and half 0x107C) 0 has_imm in
    let stack : (bit_and half 0x0F80 == 0x0100) ≡ false = ne_eqb (bit_and half 0x0F80) 0x0100
    (λ has. other (join half 0xE003 0x0F80 0x6001 0x0100 at has)) in
    expansion_by half 0xE003 0x6001 at ∙ rw (adds, loads, lacks, stack) refl

pub expansion_srli : (half : ℕ) → bit_and half 0xEC03 ≡ 0x8001
    → expansion half ≡ reads (filter (may_have 0xEC03 0x8001) short_rows) half
unfolding rows
expansion_srli half at = expansion_by half 0xEC03 0x8001 at

pub expansion_srai : (half : ℕ) → bit_and half 0xEC03 ≡ 0x8401
    → expansion half ≡ reads (filter (may_have 0xEC03 0x8401) short_rows) half
unfolding rows
expansion_srai half at = expansion_by half 0xEC03 0x8401 at

pub expansion_andi : (half : ℕ) → bit_and half 0xEC03 ≡ 0x8801
    → expansion half ≡ reads (filter (may_have 0xEC03 0x8801) short_rows) half
unfolding rows
expansion_andi half at = expansion_by half 0xEC03 0x8801 at

pub expansion_short_pair : (half : ℕ) → bit_and half 0xEC03 ≡ 0x8C01
    → expansion half ≡ reads (filter (may_have 0xEC03 0x8C01) short_rows) half
unfolding rows
expansion_short_pair half at = expansion_by half 0xEC03 0x8C01 at

pub expansion_j : (half : ℕ) → bit_and half 0xE003 ≡ 0xA001
    → expansion half ≡ reads (filter (may_have 0xE003 0xA001) jump_rows) half
unfolding rows
expansion_j half at = expansion_by half 0xE003 0xA001 at

pub expansion_beqz : (half : ℕ) → bit_and half 0xE003 ≡ 0xC001
    → expansion half ≡ reads (filter (may_have 0xE003 0xC001) jump_rows) half
unfolding rows
expansion_beqz half at = expansion_by half 0xE003 0xC001 at

pub expansion_bnez : (half : ℕ) → bit_and half 0xE003 ≡ 0xE001
    → expansion half ≡ reads (filter (may_have 0xE003 0xE001) jump_rows) half
unfolding rows
expansion_bnez half at = expansion_by half 0xE003 0xE001 at

pub expansion_slli : (half : ℕ) → bit_and half 0xE003 ≡ 0x0002
    → expansion half ≡ reads (filter (may_have 0xE003 0x0002) stack_rows) half
unfolding rows
expansion_slli half at = expansion_by half 0xE003 0x0002 at

pub expansion_lwsp : (half : ℕ) → bit_and half 0xE003 ≡ 0x4002
    → expansion half ≡ reads (filter (may_have 0xE003 0x4002) stack_rows) half
unfolding rows
expansion_lwsp half at = expansion_by half 0xE003 0x4002 at

pub expansion_swsp : (half : ℕ) → bit_and half 0xE003 ≡ 0xC002
    → expansion half ≡ reads (filter (may_have 0xE003 0xC002) stack_rows) half
unfolding rows
expansion_swsp half at = expansion_by half 0xE003 0xC002 at

-- ---- halves of quadrant 2 with funct3 100, of which one row's fixed bits take in another's

-- C.MV
pub expansion_mv : (half : ℕ) → bit_and half 0xF003 ≡ 0x8002 → (bit_and half 0x7C ≡ 0 → ⊥)
    → expansion half ≡ Some (insn_with ops.Add (rd half) 0 (rs2 half) 0)
unfolding rows
expansion_mv half at has_rs2 =
    let jumps : (bit_and half 0xF07F == 0x8002) ≡ false = ne_eqb (bit_and half 0xF07F) 0x8002
    (λ has. has_rs2 (narrow_bits half 0xF07F 0x7C 0x8002 refl has)) in
    let moves : (bit_and half 0xF003 == 0x8002) ≡ true = eq-eqb (bit_and half 0xF003) 0x8002 at in
    let lacks : (bit_and half 0x7C == 0) ≡ false = ne_eqb (bit_and half 0x7C) 0 has_rs2 in
    expansion_by half 0xF003 0x8002 at ∙ rw (jumps, moves, lacks) refl

-- C.ADD
pub expansion_add : (half : ℕ) → bit_and half 0xF003 ≡ 0x9002 → (bit_and half 0x7C ≡ 0 → ⊥)
    → expansion half ≡ Some (insn_with ops.Add (rd half) (rd half) (rs2 half) 0)
unfolding rows
expansion_add half at has_rs2 =
    let breaks : (bit_and half 0xFFFF == 0x9002) ≡ false = ne_eqb (bit_and half 0xFFFF) 0x9002
    (λ has. has_rs2 (narrow_bits half 0xFFFF 0x7C 0x9002 refl has)) in
    let jumps : (bit_and half 0xF07F == 0x9002) ≡ false = ne_eqb (bit_and half 0xF07F) 0x9002
    (λ has. has_rs2 (narrow_bits half 0xF07F 0x7C 0x9002 refl has)) in
    let adds : (bit_and half 0xF003 == 0x9002) ≡ true = eq-eqb (bit_and half 0xF003) 0x9002 at in
    let lacks : (bit_and half 0x7C == 0) ≡ false = ne_eqb (bit_and half 0x7C) 0 has_rs2 in
    expansion_by half 0xF003 0x9002 at ∙ rw (breaks, jumps, adds, lacks) refl

-- C.JR
pub expansion_jr : (half : ℕ) → bit_and half 0xF003 ≡ 0x8002 → bit_and half 0x7C ≡ 0 → (bit_and half 0x0F80 ≡ 0 → ⊥)
    → expansion half ≡ Some (insn_with ops.Jalr 0 (rd half) 0 0)
unfolding rows
expansion_jr half at no_rs2 has_rs1 =
    let jumps : (bit_and half 0xF07F == 0x8002) ≡ true = eq-eqb (bit_and half 0xF07F) 0x8002
    (join half 0xF003 0x7C 0x8002 0 at no_rs2) in
    let lacks : (bit_and half 0x0F80 == 0) ≡ false = ne_eqb (bit_and half 0x0F80) 0 has_rs1 in
    expansion_by half 0xF003 0x8002 at ∙ rw (jumps, lacks) refl

-- what would be C.JR with x0
pub expansion_no_jr : (half : ℕ) → bit_and half 0xF003 ≡ 0x8002 → bit_and half 0x7C ≡ 0 → bit_and half 0x0F80 ≡ 0
    → expansion half ≡ None
unfolding rows
expansion_no_jr half at no_rs2 no_rs1 =
    let jumps : (bit_and half 0xF07F == 0x8002) ≡ true = eq-eqb (bit_and half 0xF07F) 0x8002
    (join half 0xF003 0x7C 0x8002 0 at no_rs2) in
    let moves : (bit_and half 0xF003 == 0x8002) ≡ true = eq-eqb (bit_and half 0xF003) 0x8002 at in
    let lacks_rs1 : (bit_and half 0x0F80 == 0) ≡ true = eq-eqb (bit_and half 0x0F80) 0 no_rs1 in
    let lacks_rs2 : (bit_and half 0x7C == 0) ≡ true = eq-eqb (bit_and half 0x7C) 0 no_rs2 in
    expansion_by half 0xF003 0x8002 at ∙ rw (jumps, lacks_rs1, moves, lacks_rs2) refl

-- C.JALR
pub expansion_jalr : (half : ℕ) → bit_and half 0xF003 ≡ 0x9002 → bit_and half 0x7C ≡ 0 → (bit_and half 0x0F80 ≡ 0 → ⊥)
    → expansion half ≡ Some (insn_with ops.Jalr 1 (rd half) 0 0)
unfolding rows
expansion_jalr half at no_rs2 has_rs1 =
    let breaks : (bit_and half 0xFFFF == 0x9002) ≡ false = ne_eqb (bit_and half 0xFFFF) 0x9002
    (λ has. has_rs1 (narrow_bits half 0xFFFF 0x0F80 0x9002 refl has)) in
    let jumps : (bit_and half 0xF07F == 0x9002) ≡ true = eq-eqb (bit_and half 0xF07F) 0x9002
    (join half 0xF003 0x7C 0x9002 0 at no_rs2) in
    let lacks : (bit_and half 0x0F80 == 0) ≡ false = ne_eqb (bit_and half 0x0F80) 0 has_rs1 in
    expansion_by half 0xF003 0x9002 at ∙ rw (breaks, jumps, lacks) refl

-- C.EBREAK
pub expansion_ebreak : (half : ℕ) → bit_and half 0xF003 ≡ 0x9002 → bit_and half 0x7C ≡ 0 → bit_and half 0x0F80 ≡ 0
    → expansion half ≡ Some (insn_with ops.Ebreak 0 0 0 0)
unfolding rows
expansion_ebreak half at no_rs2 no_rs1 =
    let breaks : (bit_and half 0xFFFF == 0x9002) ≡ true = eq-eqb (bit_and half 0xFFFF) 0x9002
    (join half 0xF07F 0x0F80 0x9002 0 (join half 0xF003 0x7C 0x9002 0 at no_rs2) no_rs1) in
    expansion_by half 0xF003 0x9002 at ∙ rw breaks refl

-- ---- halves of no row

pub expansion_other : (half : ℕ) → Avoids (bit_and half 3) quadrants → expansion half ≡ None
unfolding rows expansion
expansion_other half avoids = reads-fixes listing rows half 3 quadrants avoids refl

pub expansion_other_0 : (half : ℕ) → bit_and half 3 ≡ 0 → Avoids (bit_and half 0xE003) values_0 → expansion half ≡ None
unfolding rows
expansion_other_0 half at avoids =
    expansion_by half 3 0 at ∙ reads-fixes listing rows_0 half 0xE003 values_0 avoids refl

-- (there is no such half)
pub expansion_other_1 : (half : ℕ) → bit_and half 3 ≡ 1 → Avoids (bit_and half 0xE003) values_1 → expansion half ≡ None
unfolding rows
expansion_other_1 half at avoids =
    expansion_by half 3 1 at ∙ reads-fixes listing rows_1 half 0xE003 values_1 avoids refl

-- (nor such a one)
pub expansion_other_short : (half : ℕ) → bit_and half 0xE003 ≡ 0x8001 → Avoids (bit_and half 0xEC03) short_values
    → expansion half ≡ None
unfolding rows
expansion_other_short half at avoids =
    expansion_by half 0xE003 0x8001 at ∙ reads-fixes listing short_rows half 0xEC03 short_values avoids refl

pub expansion_other_2 : (half : ℕ) → bit_and half 3 ≡ 2 → Avoids (bit_and half 0xE003) values_2 → expansion half ≡ None
unfolding rows
expansion_other_2 half at avoids =
    expansion_by half 3 2 at ∙ reads-fixes listing rows_2 half 0xE003 values_2 avoids refl

-- (nor such a one)
pub expansion_other_registers : (half : ℕ) → bit_and half 0xE003 ≡ 0x8002 → Avoids (bit_and half 0xF003) register_values
    → expansion half ≡ None
unfolding rows
expansion_other_registers half at avoids =
    expansion_by half 0xE003 0x8002 at ∙ reads-fixes listing register_rows half 0xF003 register_values avoids refl

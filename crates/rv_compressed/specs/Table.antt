-- The 16-bit instructions of RV32C without floating point, each with the 32-bit instruction that it stands for.
-- Source: RISC-V Unprivileged ISA 20191213, section 16.8, tables 16.5 to 16.7; sections 16.3 to 16.5 for expansions.
--
-- A half without a row is no instruction here: those that the tables mark RES (reserved) and NSE (non-standard
-- extension), and the loads and stores of floating point. Those marked HINT have the row of the instruction whose code
-- they use.
use Rattle.std.specs.Prelude.{ℕ, Bool, not, ◌&&◌, List, [], ◌∷◌, ◌++◌, Option, bit_and, find, ◌==◌}
use Rattle.std.specs.List.{list_any}
use Rattle.std.specs.Option.{option_map}
use Rattle.rv_decode.specs.declared.Insn.{Insn}
use Rattle.rv_decode.specs.declared.Op.{Op}
use Rattle.rv_decode.specs.declared.Op.TheVariants as ops
use Rattle.rv_compressed.specs.Operands.{x, rd, rs2, short_rs1, short_rs2}
use Rattle.rv_compressed.specs.Operands.{lacks, uimm_4spn, uimm_word, imm_six, imm_jump}
use Rattle.rv_compressed.specs.Operands.{imm_16sp, imm_upper, shift_amount, imm_branch, uimm_lwsp, uimm_swsp}

-- the bits of the mask, with the value that they have
pub record Bits : Type 0 where
  pub mask : ℕ
  pub value : ℕ

-- a line of the tables: the bits of the mask have the value, and the half has none of the exceptions;
-- and the instruction that it stands for, each operand by where the half has it
pub record Row : Type 0 where
  pub mask : ℕ
  pub value : ℕ
  pub exceptions : List Bits
  pub op : Op
  pub rd : ℕ → ℕ
  pub rs1 : ℕ → ℕ
  pub rs2 : ℕ → ℕ
  pub imm : ℕ → ℕ

-- a row by its parts
abbrev pub row : ℕ → ℕ → List Bits → Op → (ℕ → ℕ) → (ℕ → ℕ) → (ℕ → ℕ) → (ℕ → ℕ) → Row
row mask value exceptions op rd rs1 rs2 imm =
    record { mask = mask; value = value; exceptions = exceptions; op = op; rd = rd; rs1 = rs1; rs2 = rs2; imm = imm }

-- ---- the exceptions of the tables

-- uimm = 0 in C.ADDI4SPN
abbrev pub no_uimm_4spn : Bits
no_uimm_4spn = record { mask = 0x1FE0; value = 0 }

-- imm = 0 in C.ADDI16SP and C.LUI
abbrev pub no_imm : Bits
no_imm = record { mask = 0x107C; value = 0 }

-- rd = 0, or rs1 = 0
abbrev pub rd_is_x0 : Bits
rd_is_x0 = record { mask = 0x0F80; value = 0 }

-- rd = 2
abbrev pub rd_is_x2 : Bits
rd_is_x2 = record { mask = 0x0F80; value = 0x0100 }

-- rs2 = 0
abbrev pub rs2_is_x0 : Bits
rs2_is_x0 = record { mask = 0x007C; value = 0 }

-- ---- quadrant 0 (table 16.5): bits 1..0 are 00

-- C.ADDI4SPN (RES with uimm = 0, as the half 0); C.LW; C.SW
abbrev pub rows_0 : List Row
rows_0 =
    row 0xE003 0x0000 (no_uimm_4spn ∷ []) ops.Addi short_rs2 (x 2) lacks uimm_4spn
    ∷ row 0xE003 0x4000 [] ops.Lw short_rs2 short_rs1 lacks uimm_word
    ∷ row 0xE003 0xC000 [] ops.Sw lacks short_rs1 short_rs2 uimm_word
    ∷ []

-- ---- quadrant 1 (table 16.6): bits 1..0 are 01

-- C.ADDI, which with rd = 0 is C.NOP; C.JAL; C.LI
abbrev pub immediate_rows : List Row
immediate_rows =
    row 0xE003 0x0001 [] ops.Addi rd rd lacks imm_six
    ∷ row 0xE003 0x2001 [] ops.Jal (x 1) lacks lacks imm_jump
    ∷ row 0xE003 0x4001 [] ops.Addi rd (x 0) lacks imm_six
    ∷ []

-- C.ADDI16SP (RES with imm = 0); C.LUI (RES with imm = 0; with rd = 2 it is C.ADDI16SP)
abbrev pub upper_rows : List Row
upper_rows =
    row 0xEF83 0x6101 (no_imm ∷ []) ops.Addi (x 2) (x 2) lacks imm_16sp
    ∷ row 0xE003 0x6001 (no_imm ∷ rd_is_x2 ∷ []) ops.Lui rd lacks lacks imm_upper
    ∷ []

-- C.SRLI and C.SRAI (NSE with uimm[5] = 1); C.ANDI; C.SUB; C.XOR; C.OR; C.AND
abbrev pub short_rows : List Row
short_rows =
    row 0xFC03 0x8001 [] ops.Srli short_rs1 short_rs1 lacks shift_amount
    ∷ row 0xFC03 0x8401 [] ops.Srai short_rs1 short_rs1 lacks shift_amount
    ∷ row 0xEC03 0x8801 [] ops.Andi short_rs1 short_rs1 lacks imm_six
    ∷ row 0xFC63 0x8C01 [] ops.Sub short_rs1 short_rs1 short_rs2 lacks
    ∷ row 0xFC63 0x8C21 [] ops.Xor short_rs1 short_rs1 short_rs2 lacks
    ∷ row 0xFC63 0x8C41 [] ops.Or short_rs1 short_rs1 short_rs2 lacks
    ∷ row 0xFC63 0x8C61 [] ops.And short_rs1 short_rs1 short_rs2 lacks
    ∷ []

-- C.J; C.BEQZ; C.BNEZ
abbrev pub jump_rows : List Row
jump_rows =
    row 0xE003 0xA001 [] ops.Jal (x 0) lacks lacks imm_jump
    ∷ row 0xE003 0xC001 [] ops.Beq lacks short_rs1 (x 0) imm_branch
    ∷ row 0xE003 0xE001 [] ops.Bne lacks short_rs1 (x 0) imm_branch
    ∷ []

-- the quadrant
abbrev pub rows_1 : List Row
rows_1 = immediate_rows ++ upper_rows ++ short_rows ++ jump_rows

-- ---- quadrant 2 (table 16.7): bits 1..0 are 10

-- C.SLLI (NSE with uimm[5] = 1); C.LWSP (RES with rd = 0); C.SWSP
abbrev pub stack_rows : List Row
stack_rows =
    row 0xF003 0x0002 [] ops.Slli rd rd lacks shift_amount
    ∷ row 0xE003 0x4002 (rd_is_x0 ∷ []) ops.Lw rd (x 2) lacks uimm_lwsp
    ∷ row 0xE003 0xC002 [] ops.Sw lacks (x 2) rs2 uimm_swsp
    ∷ []

-- C.JR (RES with rs1 = 0); C.MV; C.EBREAK; C.JALR; C.ADD
abbrev pub register_rows : List Row
register_rows =
    row 0xF07F 0x8002 (rd_is_x0 ∷ []) ops.Jalr (x 0) rd lacks lacks
    ∷ row 0xF003 0x8002 (rs2_is_x0 ∷ []) ops.Add rd (x 0) rs2 lacks
    ∷ row 0xFFFF 0x9002 [] ops.Ebreak lacks lacks lacks lacks
    ∷ row 0xF07F 0x9002 (rd_is_x0 ∷ []) ops.Jalr (x 1) rd lacks lacks
    ∷ row 0xF003 0x9002 (rs2_is_x0 ∷ []) ops.Add rd rd rs2 lacks
    ∷ []

-- the quadrant
abbrev pub rows_2 : List Row
rows_2 = stack_rows ++ register_rows

-- ---- what a half stands for

-- the three tables, 26 rows
unfoldable pub rows : List Row
rows = rows_0 ++ rows_1 ++ rows_2

-- does the half have these bits?
abbrev pub has : ℕ → Bits → Bool
has half bits = bit_and half bits.mask == bits.value

-- is the half of the row?
abbrev pub is_of : ℕ → Row → Bool
is_of half row = (bit_and half row.mask == row.value) && not (list_any (has half) row.exceptions)

-- an operation with its operands
abbrev pub insn_with : Op → ℕ → ℕ → ℕ → ℕ → Insn
insn_with op rd rs1 rs2 imm = record { op = op; rd = rd; rs1 = rs1; rs2 = rs2; imm = imm }

-- the instruction that the row reads from the half
abbrev pub insn_of : Row → ℕ → Insn
insn_of row half = insn_with row.op (row.rd half) (row.rs1 half) (row.rs2 half) (row.imm half)

-- the 32-bit instruction that a half stands for: that of the row that it is of, if there is one
unfoldable pub expansion : ℕ → Option Insn
expansion half = option_map (λ row. insn_of row half) (find (is_of half) rows)

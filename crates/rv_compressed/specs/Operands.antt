-- The operands of a 16-bit instruction: registers, and immediates by the manual's patterns of bits.
-- Source: RISC-V Unprivileged ISA 20191213, section 16.2 (formats) and section 16.8 (listing, tables 16.5 to 16.7).
use Rattle.std.specs.Prelude.{ℕ, List, [], ◌∷◌, ◌+◌, ◌-◌, ◌*◌, ◌^◌}
use Rattle.rv_fields.specs.Fields.{field}

-- ---- registers

-- the register of this number, whatever the half
abbrev pub x : ℕ → ℕ → ℕ
x number half = number

-- rd, rs1 or both: the five bits 11..7
abbrev pub rd : ℕ → ℕ
rd half = field half 11 7

-- rs2: the five bits 6..2
abbrev pub rs2 : ℕ → ℕ
rs2 half = field half 6 2

-- rs1' or rd', one of x8 to x15: the three bits 9..7 (table 16.2)
abbrev pub short_rs1 : ℕ → ℕ
short_rs1 half = 8 + field half 9 7

-- rs2' or rd', one of x8 to x15: the three bits 4..2 (table 16.2)
abbrev pub short_rs2 : ℕ → ℕ
short_rs2 half = 8 + field half 4 2

-- an operand that the instruction lacks
abbrev pub lacks : ℕ → ℕ
lacks half = 0

-- ---- patterns

-- the bits high..low of an immediate, which a pattern writes as high:low
pub record Run : Type 0 where
  pub high : ℕ
  pub low : ℕ

-- high:low in a pattern
abbrev pub bits : ℕ → ℕ → Run
bits high low = record { high = high; low = low }

-- a bit by itself in a pattern
abbrev pub bit : ℕ → Run
bit place = bits place place

-- the number whose bits lie in the half in the pattern's order, from the half's bit `top` down
abbrev pub spelled : ℕ → List Run → ℕ → ℕ
spelled top [] half = 0
spelled top (run ∷ runs) half =
    field half top (top + run.low - run.high) * 2 ^ run.low + spelled (top + run.low - run.high - 1) runs half

-- the bits 31..place of a signed immediate, each a copy of bit 12 of the half
abbrev pub sign_from : ℕ → ℕ → ℕ
sign_from place half = field half 12 12 * (2 ^ 32 - 2 ^ place)

-- ---- immediates, modulo 2^32

-- C.ADDI4SPN: nzuimm[5:4|9:6|2|3] in bits 12..5
abbrev pub uimm_4spn : ℕ → ℕ
uimm_4spn half = spelled 12 (bits 5 4 ∷ bits 9 6 ∷ bit 2 ∷ bit 3 ∷ []) half

-- C.LW, C.SW: uimm[5:3] in bits 12..10, uimm[2|6] in bits 6..5
abbrev pub uimm_word : ℕ → ℕ
uimm_word half = spelled 12 (bits 5 3 ∷ []) half + spelled 6 (bit 2 ∷ bit 6 ∷ []) half

-- C.ADDI, C.LI, C.ANDI: imm[5] in bit 12, imm[4:0] in bits 6..2
abbrev pub imm_six : ℕ → ℕ
imm_six half = sign_from 6 half + spelled 12 (bit 5 ∷ []) half + spelled 6 (bits 4 0 ∷ []) half

-- C.JAL, C.J: imm[11|4|9:8|10|6|7|3:1|5] in bits 12..2
abbrev pub imm_jump : ℕ → ℕ
imm_jump half =
    sign_from 12 half
    + spelled 12 (bit 11 ∷ bit 4 ∷ bits 9 8 ∷ bit 10 ∷ bit 6 ∷ bit 7 ∷ bits 3 1 ∷ bit 5 ∷ []) half

-- C.ADDI16SP: nzimm[9] in bit 12, nzimm[4|6|8:7|5] in bits 6..2
abbrev pub imm_16sp : ℕ → ℕ
imm_16sp half =
    sign_from 10 half + spelled 12 (bit 9 ∷ []) half + spelled 6 (bit 4 ∷ bit 6 ∷ bits 8 7 ∷ bit 5 ∷ []) half

-- C.LUI: nzimm[17] in bit 12, nzimm[16:12] in bits 6..2
abbrev pub imm_upper : ℕ → ℕ
imm_upper half = sign_from 18 half + spelled 12 (bit 17 ∷ []) half + spelled 6 (bits 16 12 ∷ []) half

-- C.SRLI, C.SRAI, C.SLLI: shamt[4:0] in bits 6..2; shamt[5], bit 12, is 0 in RV32C
abbrev pub shift_amount : ℕ → ℕ
shift_amount half = spelled 6 (bits 4 0 ∷ []) half

-- C.BEQZ, C.BNEZ: imm[8|4:3] in bits 12..10, imm[7:6|2:1|5] in bits 6..2
abbrev pub imm_branch : ℕ → ℕ
imm_branch half =
    sign_from 9 half + spelled 12 (bit 8 ∷ bits 4 3 ∷ []) half + spelled 6 (bits 7 6 ∷ bits 2 1 ∷ bit 5 ∷ []) half

-- C.LWSP: uimm[5] in bit 12, uimm[4:2|7:6] in bits 6..2
abbrev pub uimm_lwsp : ℕ → ℕ
uimm_lwsp half = spelled 12 (bit 5 ∷ []) half + spelled 6 (bits 4 2 ∷ bits 7 6 ∷ []) half

-- C.SWSP: uimm[5:2|7:6] in bits 12..7
abbrev pub uimm_swsp : ℕ → ℕ
uimm_swsp half = spelled 12 (bits 5 2 ∷ bits 7 6 ∷ []) half

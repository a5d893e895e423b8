-- The instructions of RV32I and of the M extension, as the fixed bits of their words.
-- Source: RISC-V Unprivileged ISA 20191213, chapter 24 (listing), chapter 2 (RV32I), chapter 7 (M).
use Rattle.std.specs.Prelude.{◌≡◌, ℕ, Bool, List, [], ◌∷◌, ◌++◌, Option, bit_and, find, ◌==◌}
use Rattle.std.specs.List.{AllPairs}
use Rattle.std.specs.Option.{option_map}
use Rattle.rv_decode.specs.declared.Insn.{Insn}
use Rattle.rv_decode.specs.declared.Op.{Op}
use Rattle.rv_decode.specs.declared.Op.TheVariants as ops
use Rattle.rv_fields.specs.Fields.{rd, rs1, rs2, shift_amount, imm_i, imm_s, imm_b, imm_u, imm_j}

-- which bits of a word are its operands: the formats of section 2.2 and 2.3, shifts by an immediate, or none
pub data Form : Type 0 where
  R : Form
  I : Form
  Shift : Form
  S : Form
  B : Form
  U : Form
  J : Form
  Bare : Form

-- a line of the listing: the bits of the mask are fixed, to those of the value
pub record Row : Type 0 where
  pub mask : ℕ
  pub value : ℕ
  pub form : Form
  pub op : Op

-- a row by its parts
abbrev pub row : ℕ → ℕ → Form → Op → Row
row mask value form op = record { mask = mask; value = value; form = form; op = op }

-- upper immediates (section 2.4)
abbrev pub upper_rows : List Row
upper_rows =
    row 0x0000007F 0x00000037 U ops.Lui
    ∷ row 0x0000007F 0x00000017 U ops.Auipc
    ∷ []

-- unconditional jumps (section 2.5)
abbrev pub jump_rows : List Row
jump_rows =
    row 0x0000007F 0x0000006F J ops.Jal
    ∷ row 0x0000707F 0x00000067 I ops.Jalr
    ∷ []

-- conditional branches (section 2.5)
abbrev pub branch_rows : List Row
branch_rows =
    row 0x0000707F 0x00000063 B ops.Beq
    ∷ row 0x0000707F 0x00001063 B ops.Bne
    ∷ row 0x0000707F 0x00004063 B ops.Blt
    ∷ row 0x0000707F 0x00005063 B ops.Bge
    ∷ row 0x0000707F 0x00006063 B ops.Bltu
    ∷ row 0x0000707F 0x00007063 B ops.Bgeu
    ∷ []

-- loads (section 2.6)
abbrev pub load_rows : List Row
load_rows =
    row 0x0000707F 0x00000003 I ops.Lb
    ∷ row 0x0000707F 0x00001003 I ops.Lh
    ∷ row 0x0000707F 0x00002003 I ops.Lw
    ∷ row 0x0000707F 0x00004003 I ops.Lbu
    ∷ row 0x0000707F 0x00005003 I ops.Lhu
    ∷ []

-- stores (section 2.6)
abbrev pub store_rows : List Row
store_rows =
    row 0x0000707F 0x00000023 S ops.Sb
    ∷ row 0x0000707F 0x00001023 S ops.Sh
    ∷ row 0x0000707F 0x00002023 S ops.Sw
    ∷ []

-- operations on a register and an immediate (section 2.4)
abbrev pub immediate_rows : List Row
immediate_rows =
    row 0x0000707F 0x00000013 I ops.Addi
    ∷ row 0x0000707F 0x00002013 I ops.Slti
    ∷ row 0x0000707F 0x00003013 I ops.Sltiu
    ∷ row 0x0000707F 0x00004013 I ops.Xori
    ∷ row 0x0000707F 0x00006013 I ops.Ori
    ∷ row 0x0000707F 0x00007013 I ops.Andi
    ∷ []

-- shifts by an immediate amount (section 2.4)
abbrev pub shift_rows : List Row
shift_rows =
    row 0xFE00707F 0x00001013 Shift ops.Slli
    ∷ row 0xFE00707F 0x00005013 Shift ops.Srli
    ∷ row 0xFE00707F 0x40005013 Shift ops.Srai
    ∷ []

-- operations on two registers (section 2.4)
abbrev pub register_rows : List Row
register_rows =
    row 0xFE00707F 0x00000033 R ops.Add
    ∷ row 0xFE00707F 0x40000033 R ops.Sub
    ∷ row 0xFE00707F 0x00001033 R ops.Sll
    ∷ row 0xFE00707F 0x00002033 R ops.Slt
    ∷ row 0xFE00707F 0x00003033 R ops.Sltu
    ∷ row 0xFE00707F 0x00004033 R ops.Xor
    ∷ row 0xFE00707F 0x00005033 R ops.Srl
    ∷ row 0xFE00707F 0x40005033 R ops.Sra
    ∷ row 0xFE00707F 0x00006033 R ops.Or
    ∷ row 0xFE00707F 0x00007033 R ops.And
    ∷ []

-- memory ordering, whose other fields are free (section 2.7)
abbrev pub fence_rows : List Row
fence_rows =
    row 0x0000707F 0x0000000F Bare ops.Fence
    ∷ []

-- calls of the environment (section 2.8)
abbrev pub environment_rows : List Row
environment_rows =
    row 0xFFFFFFFF 0x00000073 Bare ops.Ecall
    ∷ row 0xFFFFFFFF 0x00100073 Bare ops.Ebreak
    ∷ []

-- multiplication and division (chapter 7)
abbrev pub multiply_rows : List Row
multiply_rows =
    row 0xFE00707F 0x02000033 R ops.Mul
    ∷ row 0xFE00707F 0x02001033 R ops.Mulh
    ∷ row 0xFE00707F 0x02002033 R ops.Mulhsu
    ∷ row 0xFE00707F 0x02003033 R ops.Mulhu
    ∷ row 0xFE00707F 0x02004033 R ops.Div
    ∷ row 0xFE00707F 0x02005033 R ops.Divu
    ∷ row 0xFE00707F 0x02006033 R ops.Rem
    ∷ row 0xFE00707F 0x02007033 R ops.Remu
    ∷ []

-- the listing: RV32I in its order, then M
unfoldable pub rows : List Row
rows =
    upper_rows
    ++ jump_rows
    ++ branch_rows
    ++ load_rows
    ++ store_rows
    ++ immediate_rows
    ++ shift_rows
    ++ register_rows
    ++ fence_rows
    ++ environment_rows
    ++ multiply_rows

-- the word has the fixed bits of the row
abbrev pub HasFixedBits : ℕ → Row → Type 0
HasFixedBits word row = bit_and word row.mask ≡ row.value

-- the same, as a test
abbrev pub has_fixed_bits : ℕ → Row → Bool
has_fixed_bits word row = bit_and word row.mask == row.value

-- the operation with those fields of the word that the form has, and 0 for the others
abbrev pub with_fields : Form → Op → ℕ → Insn
with_fields R op word = record { op = op; rd = rd word; rs1 = rs1 word; rs2 = rs2 word; imm = 0 }
with_fields I op word = record { op = op; rd = rd word; rs1 = rs1 word; rs2 = 0; imm = imm_i word }
with_fields Shift op word = record { op = op; rd = rd word; rs1 = rs1 word; rs2 = 0; imm = shift_amount word }
with_fields S op word = record { op = op; rd = 0; rs1 = rs1 word; rs2 = rs2 word; imm = imm_s word }
with_fields B op word = record { op = op; rd = 0; rs1 = rs1 word; rs2 = rs2 word; imm = imm_b word }
with_fields U op word = record { op = op; rd = rd word; rs1 = 0; rs2 = 0; imm = imm_u word }
with_fields J op word = record { op = op; rd = rd word; rs1 = 0; rs2 = 0; imm = imm_j word }
with_fields Bare op word = record { op = op; rd = 0; rs1 = 0; rs2 = 0; imm = 0 }

-- the instruction that the row reads from the word
abbrev pub insn_of : Row → ℕ → Insn
insn_of row word = with_fields row.form row.op word

-- the instruction of a word: that of the first row whose fixed bits the word has
unfoldable pub insn : ℕ → Option Insn
insn word = option_map (λ row. insn_of row word) (find (has_fixed_bits word) rows)

-- the instruction is that of a row whose fixed bits the word has
abbrev pub IsOfRow : ℕ → Insn → Row → Type 0
IsOfRow word insn row = HasFixedBits word row × (insn ≡ insn_of row word)

-- no word has the fixed bits of both rows
abbrev pub Excludes : Row → Row → Type 0
Excludes one other = (word : ℕ) → HasFixedBits word one → ¬ HasFixedBits word other

-- no word has the fixed bits of two rows: each row excludes each later one, and so each earlier one
abbrev pub OneRow : Type 0
OneRow = AllPairs Excludes rows

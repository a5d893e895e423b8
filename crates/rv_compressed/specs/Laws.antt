-- What holds of the table of 16-bit instructions.
-- Source: RISC-V Unprivileged ISA 20191213, chapter 16; sections 2.2 and 2.3 for the operands of 32-bit instructions.
use Rattle.std.specs.Prelude.{◌≡◌, ◌<◌, ◌≤◌, ◌⊎◌, ℕ, ◌+◌, ◌-◌, ◌%◌, ◌^◌, IsTrue, All, Any, None, bit_and}
use Rattle.std.specs.List.{AllPairs}
use Rattle.rv_decode.specs.declared.Insn.{Insn}
use Rattle.rv_decode.specs.Table.{Form, R, I, Shift, S, B, U, J, Bare}
use Rattle.rv_decode.specs.Table.{Row as Line, rows as lines}
use Rattle.rv_compressed.specs.Operands.{short_rs1, short_rs2}
use Rattle.rv_compressed.specs.Table.{Row, rows, is_of, insn_of, expansion}

-- the half is of the row
abbrev pub IsOf : ℕ → Row → Type 0
IsOf half row = IsTrue (is_of half row)

-- the instruction is what a row reads from a half that is of it
abbrev pub IsOfRow : ℕ → Insn → Row → Type 0
IsOfRow half insn row = IsOf half row × (insn ≡ insn_of row half)

-- ---- no half has two rows

-- no half is of both rows
abbrev pub Excludes : Row → Row → Type 0
Excludes one other = (half : ℕ) → IsOf half one → ¬ IsOf half other

-- each row excludes each later one, and so each earlier one
abbrev pub OneRow : Type 0
OneRow = AllPairs Excludes rows

-- ---- each expansion is an instruction of 32 bits

-- a number modulo 2^32 is that of a signed number with this width in bits
abbrev pub IsSigned : ℕ → ℕ → Type 0
IsSigned width n = (n < 2 ^ (width - 1)) ⊎ ((2 ^ 32 ≤ n + 2 ^ (width - 1)) × (n < 2 ^ 32))

-- the operands are ones that an instruction of the form can have: those that it lacks are 0, and its immediate fits
abbrev pub HasOperands : Form → Insn → Type 0
HasOperands R insn = insn.imm ≡ 0
HasOperands I insn = (insn.rs2 ≡ 0) × IsSigned 12 insn.imm
HasOperands Shift insn = (insn.rs2 ≡ 0) × (insn.imm < 32)
HasOperands S insn = (insn.rd ≡ 0) × IsSigned 12 insn.imm
HasOperands B insn = (insn.rd ≡ 0) × IsSigned 13 insn.imm × (insn.imm % 2 ≡ 0)
HasOperands U insn = (insn.rs1 ≡ 0) × (insn.rs2 ≡ 0) × (insn.imm < 2 ^ 32) × (insn.imm % 2 ^ 12 ≡ 0)
HasOperands J insn = (insn.rs1 ≡ 0) × (insn.rs2 ≡ 0) × IsSigned 21 insn.imm × (insn.imm % 2 ≡ 0)
HasOperands Bare insn = (insn.rd ≡ 0) × (insn.rs1 ≡ 0) × (insn.rs2 ≡ 0) × (insn.imm ≡ 0)

-- the numbers of registers are below 32
abbrev pub HasRegisters : Insn → Type 0
HasRegisters insn = (insn.rd < 32) × (insn.rs1 < 32) × (insn.rs2 < 32)

-- the instruction is one that this line of the 32-bit listing can have
abbrev pub IsOfLine : Insn → Line → Type 0
IsOfLine insn line = (line.op ≡ insn.op) × HasOperands line.form insn × HasRegisters insn

-- what a row reads from a half is an instruction of the 32-bit listing
abbrev pub Expands : Row → Type 0
Expands row = (half : ℕ) → Any (IsOfLine (insn_of row half)) lines

-- so it is for each row
abbrev pub AllExpand : Type 0
AllExpand = All Expands rows

-- a register of three bits is one of x8 to x15
abbrev pub ShortRegisters : Type 0
ShortRegisters =
    (half : ℕ) → (8 ≤ short_rs1 half) × (short_rs1 half < 16) × (8 ≤ short_rs2 half) × (short_rs2 half < 16)

-- ---- halves that stand for nothing

-- a half whose bits 1..0 are 11 begins a longer instruction (section 1.5)
abbrev pub LongHalvesHaveNone : Type 0
LongHalvesHaveNone = (half : ℕ) → bit_and half 3 ≡ 3 → expansion half ≡ None

-- the half 0 is illegal (section 16.2)
abbrev pub ZeroHasNone : Type 0
ZeroHasNone = expansion 0 ≡ None

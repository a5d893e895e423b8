-- The instructions in classes: each of the 48 names of the instruction table, with what distinguishes it from the
-- others of its class; and the 19 of the table of extensions.
use Rattle.std.specs.Prelude.{ℕ, true, false, Option, Some, None}
use Rattle.rv_compressed.specs.Table.{expansion}
use Rattle.rv_decode.specs.Table.{insn}
use Rattle.rv_decode.specs.declared.Insn.{Insn}
use Rattle.rv_decode.specs.declared.Op.{Op}
use Rattle.rv_extensions.specs.Table.{extension}
use Rattle.rv_extensions.specs.declared.Extension.{Extension}
use Rattle.rv_extensions.specs.declared.ExtensionOp.{ExtensionOp}
use Rattle.rv_extensions.specs.declared.ExtensionOp.TheVariants as extensions
use Rattle.instructions.specs.declared.instruction.Instruction.{Instruction}
use Rattle.instructions.specs.declared.instruction.Instruction.TheVariants.{LoadUpper, AddUpper, Jump, JumpRegister}
use Rattle.instructions.specs.declared.instruction.Instruction.TheVariants.{Branch, Load, Store, Immediate, Registers}
use Rattle.instructions.specs.declared.instruction.Instruction.TheVariants.{Fence, CallEnvironment, Breakpoint}
use Rattle.instructions.specs.declared.instruction.Instruction.TheVariants.{LoadReserved, StoreConditional, Update}
use Rattle.instructions.specs.declared.instruction.Instruction.TheVariants.{Control, Barrier}
use Rattle.instructions.specs.declared.atomic.Update.TheVariants as updates
use Rattle.instructions.specs.declared.control.ControlAccess.TheVariants.{Write, Set, Clear}
use Rattle.instructions.specs.declared.control.ControlOperand.TheVariants as operands
use Rattle.instructions.specs.declared.instruction.Comparison.TheVariants as Comparison
use Rattle.instructions.specs.declared.instruction.Operation.TheVariants as Operation
use Rattle.instructions.specs.declared.width.Width.TheVariants.{Byte, Half, Word}

abbrev pub instruction_by : Op → ℕ → ℕ → ℕ → ℕ → Instruction
instruction_by Op.Lui rd rs1 rs2 imm = LoadUpper rd imm
instruction_by Op.Auipc rd rs1 rs2 imm = AddUpper rd imm
instruction_by Op.Jal rd rs1 rs2 imm = Jump rd imm
instruction_by Op.Jalr rd rs1 rs2 imm = JumpRegister rd rs1 imm
instruction_by Op.Beq rd rs1 rs2 imm = Branch Comparison.Equal rs1 rs2 imm
instruction_by Op.Bne rd rs1 rs2 imm = Branch Comparison.NotEqual rs1 rs2 imm
instruction_by Op.Blt rd rs1 rs2 imm = Branch Comparison.Less rs1 rs2 imm
instruction_by Op.Bge rd rs1 rs2 imm = Branch Comparison.GreaterEqual rs1 rs2 imm
instruction_by Op.Bltu rd rs1 rs2 imm = Branch Comparison.LessUnsigned rs1 rs2 imm
instruction_by Op.Bgeu rd rs1 rs2 imm = Branch Comparison.GreaterEqualUnsigned rs1 rs2 imm
instruction_by Op.Lb rd rs1 rs2 imm = Load Byte true rd rs1 imm
instruction_by Op.Lh rd rs1 rs2 imm = Load Half true rd rs1 imm
instruction_by Op.Lw rd rs1 rs2 imm = Load Word true rd rs1 imm
instruction_by Op.Lbu rd rs1 rs2 imm = Load Byte false rd rs1 imm
instruction_by Op.Lhu rd rs1 rs2 imm = Load Half false rd rs1 imm
instruction_by Op.Sb rd rs1 rs2 imm = Store Byte rs1 rs2 imm
instruction_by Op.Sh rd rs1 rs2 imm = Store Half rs1 rs2 imm
instruction_by Op.Sw rd rs1 rs2 imm = Store Word rs1 rs2 imm
instruction_by Op.Addi rd rs1 rs2 imm = Immediate Operation.Add rd rs1 imm
instruction_by Op.Slti rd rs1 rs2 imm = Immediate Operation.SetLess rd rs1 imm
instruction_by Op.Sltiu rd rs1 rs2 imm = Immediate Operation.SetLessUnsigned rd rs1 imm
instruction_by Op.Xori rd rs1 rs2 imm = Immediate Operation.Xor rd rs1 imm
instruction_by Op.Ori rd rs1 rs2 imm = Immediate Operation.Or rd rs1 imm
instruction_by Op.Andi rd rs1 rs2 imm = Immediate Operation.And rd rs1 imm
instruction_by Op.Slli rd rs1 rs2 imm = Immediate Operation.ShiftLeft rd rs1 imm
instruction_by Op.Srli rd rs1 rs2 imm = Immediate Operation.ShiftRight rd rs1 imm
instruction_by Op.Srai rd rs1 rs2 imm = Immediate Operation.ShiftArith rd rs1 imm
instruction_by Op.Add rd rs1 rs2 imm = Registers Operation.Add rd rs1 rs2
instruction_by Op.Sub rd rs1 rs2 imm = Registers Operation.Sub rd rs1 rs2
instruction_by Op.Sll rd rs1 rs2 imm = Registers Operation.ShiftLeft rd rs1 rs2
instruction_by Op.Slt rd rs1 rs2 imm = Registers Operation.SetLess rd rs1 rs2
instruction_by Op.Sltu rd rs1 rs2 imm = Registers Operation.SetLessUnsigned rd rs1 rs2
instruction_by Op.Xor rd rs1 rs2 imm = Registers Operation.Xor rd rs1 rs2
instruction_by Op.Srl rd rs1 rs2 imm = Registers Operation.ShiftRight rd rs1 rs2
instruction_by Op.Sra rd rs1 rs2 imm = Registers Operation.ShiftArith rd rs1 rs2
instruction_by Op.Or rd rs1 rs2 imm = Registers Operation.Or rd rs1 rs2
instruction_by Op.And rd rs1 rs2 imm = Registers Operation.And rd rs1 rs2
instruction_by Op.Mul rd rs1 rs2 imm = Registers Operation.Mul rd rs1 rs2
instruction_by Op.Mulh rd rs1 rs2 imm = Registers Operation.MulHigh rd rs1 rs2
instruction_by Op.Mulhsu rd rs1 rs2 imm = Registers Operation.MulHighSignedUnsigned rd rs1 rs2
instruction_by Op.Mulhu rd rs1 rs2 imm = Registers Operation.MulHighUnsigned rd rs1 rs2
instruction_by Op.Div rd rs1 rs2 imm = Registers Operation.Div rd rs1 rs2
instruction_by Op.Divu rd rs1 rs2 imm = Registers Operation.DivUnsigned rd rs1 rs2
instruction_by Op.Rem rd rs1 rs2 imm = Registers Operation.Rem rd rs1 rs2
instruction_by Op.Remu rd rs1 rs2 imm = Registers Operation.RemUnsigned rd rs1 rs2
instruction_by Op.Fence rd rs1 rs2 imm = Fence
instruction_by Op.Ecall rd rs1 rs2 imm = CallEnvironment
instruction_by Op.Ebreak rd rs1 rs2 imm = Breakpoint

-- the instruction of a row of the table
unfoldable pub instruction_of : Insn → Instruction
instruction_of i = instruction_by i.op i.rd i.rs1 i.rs2 i.imm

abbrev pub if_row : Option Insn → Option Instruction
if_row None = None
if_row (Some i) = Some (instruction_of i)

-- the same of the table of extensions
abbrev pub extension_by : ExtensionOp → ℕ → ℕ → ℕ → ℕ → ℕ → Instruction
extension_by extensions.LrW csr rd rs1 rs2 uimm = LoadReserved rd rs1
extension_by extensions.ScW csr rd rs1 rs2 uimm = StoreConditional rd rs1 rs2
extension_by extensions.AmoswapW csr rd rs1 rs2 uimm = Update updates.Swap rd rs1 rs2
extension_by extensions.AmoaddW csr rd rs1 rs2 uimm = Update updates.Add rd rs1 rs2
extension_by extensions.AmoxorW csr rd rs1 rs2 uimm = Update updates.Xor rd rs1 rs2
extension_by extensions.AmoandW csr rd rs1 rs2 uimm = Update updates.And rd rs1 rs2
extension_by extensions.AmoorW csr rd rs1 rs2 uimm = Update updates.Or rd rs1 rs2
extension_by extensions.AmominW csr rd rs1 rs2 uimm = Update updates.Min rd rs1 rs2
extension_by extensions.AmomaxW csr rd rs1 rs2 uimm = Update updates.Max rd rs1 rs2
extension_by extensions.AmominuW csr rd rs1 rs2 uimm = Update updates.MinUnsigned rd rs1 rs2
extension_by extensions.AmomaxuW csr rd rs1 rs2 uimm = Update updates.MaxUnsigned rd rs1 rs2
extension_by extensions.Csrrw csr rd rs1 rs2 uimm = Control Write rd csr (operands.Register rs1)
extension_by extensions.Csrrs csr rd rs1 rs2 uimm = Control Set rd csr (operands.Register rs1)
extension_by extensions.Csrrc csr rd rs1 rs2 uimm = Control Clear rd csr (operands.Register rs1)
extension_by extensions.Csrrwi csr rd rs1 rs2 uimm = Control Write rd csr (operands.Immediate uimm)
extension_by extensions.Csrrsi csr rd rs1 rs2 uimm = Control Set rd csr (operands.Immediate uimm)
extension_by extensions.Csrrci csr rd rs1 rs2 uimm = Control Clear rd csr (operands.Immediate uimm)
extension_by extensions.FenceI csr rd rs1 rs2 uimm = Barrier
extension_by extensions.Wfi csr rd rs1 rs2 uimm = Barrier

unfoldable pub extension_of : Extension → Instruction
extension_of e = extension_by e.op e.csr e.rd e.rs1 e.rs2 e.uimm

abbrev pub if_extension : Option Extension → Option Instruction
if_extension None = None
if_extension (Some e) = Some (extension_of e)

-- the instruction of the first table, or else of the second; no word is in both (rv_extensions, ApartFromBase)
abbrev pub row_or : Option Instruction → Option Instruction → Option Instruction
row_or (Some row) other = Some row
row_or None other = other

-- the instruction of a word, if it is one
unfoldable pub row_of : ℕ → Option Instruction
row_of word = row_or (if_row (insn word)) (if_extension (extension word))

-- the instruction of a half, if it is one: that of the row that it stands for
unfoldable pub row_of_half : ℕ → Option Instruction
row_of_half half = if_row (expansion half)

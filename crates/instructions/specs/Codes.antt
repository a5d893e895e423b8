-- The code of an instruction, as memory has it (RISC-V Unprivileged ISA 20191213, sections 1.5 and 16.8).
use Rattle.std.specs.Prelude.{ℕ, ◌==◌, Option, if◌then◌else◌}
use Rattle.instructions.specs.Instructions.{row_of, row_of_half}
use Rattle.instructions.specs.declared.code.Code.{Code}
use Rattle.instructions.specs.declared.code.Code.TheVariants.{Word, Half}
use Rattle.instructions.specs.declared.instruction.Instruction.{Instruction}

-- how many bytes it has
abbrev pub len_of : Code → ℕ
len_of (Word word) = 4
len_of (Half half) = 2

-- and the number that they are, the lowest byte first
abbrev pub number_of : Code → ℕ
number_of (Word word) = word
number_of (Half half) = half

-- the code of this many bytes, 4 or 2, that is this number
unfoldable pub code_of : ℕ → ℕ → Code
code_of len number = if len == 2 then Half number else Word number

-- the instruction of a code, if it is one: a half is that of the word that it stands for
abbrev pub row_of_code : Code → Option Instruction
row_of_code (Word word) = row_of word
row_of_code (Half half) = row_of_half half

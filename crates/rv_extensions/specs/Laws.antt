-- What holds of the table of extensions.
use Rattle.std.specs.Prelude.{◌≡◌, ◌<◌, ℕ, ◌^◌, IfSome, None}
use Rattle.std.specs.List.{AllPairs}
use Rattle.rv_decode.specs.Table.{insn}
use Rattle.rv_extensions.specs.declared.Extension.{Extension}
use Rattle.rv_extensions.specs.Table.{Row, rows, HasFixedBits, extension_of, extension}

-- the instruction is that of a row whose fixed bits the word has
abbrev pub IsOfRow : ℕ → Extension → Row → Type 0
IsOfRow word found row = HasFixedBits word row × (found ≡ extension_of row word)

-- each operand is below what its bits can hold
abbrev pub HasOperands : Extension → Type 0
HasOperands found = (found.rd < 32) × (found.rs1 < 32) × (found.rs2 < 32) × (found.uimm < 32) × (found.csr < 2 ^ 12)

-- no word has the fixed bits of both rows
abbrev pub Excludes : Row → Row → Type 0
Excludes one other = (word : ℕ) → HasFixedBits word one → ¬ HasFixedBits word other

-- no word has the fixed bits of two rows: each row excludes each later one, and so each earlier one
abbrev pub OneRow : Type 0
OneRow = AllPairs Excludes rows

-- no word of an extension is one of the 48 instructions of RV32IM
abbrev pub ApartFromBase : Type 0
ApartFromBase = (word : ℕ) → IfSome (extension word) (λ found. insn word ≡ None)

-- What holds of every instruction of the table.
use Rattle.std.proofs.Common.{◌≡◌, ℕ, ◌<◌, Some, IfSome, IfNone, All, Any, refl, arith}
use Rattle.rv_fields.proofs.Tables.{reads-IfSome, reads-Any, reads-All, reads-only}
use Rattle.rv_fields.proofs.Tables.{all_apart-AllPairs, differs, differs-apart}
use Rattle.rv_decode.specs.declared.Insn.{Insn}
use Rattle.rv_decode.specs.declared.Op.{Op}
use Rattle.rv_decode.specs.Table.{Form, R, I, Shift, S, B, U, J, Bare, rows, HasFixedBits}
use Rattle.rv_decode.specs.Table.{with_fields, insn_of, insn, IsOfRow, Excludes, OneRow}
use Rattle.rv_decode.proofs.TableLemmas.{listing}

-- the numbers of registers are below 32
abbrev pub HasRegisters : Insn → Type 0
HasRegisters i = (i.rd < 32) × (i.rs1 < 32) × (i.rs2 < 32)

-- each form's registers are fields of five bits, or 0
pub with_fields-HasRegisters : (form : Form) (op : Op) (word : ℕ) → HasRegisters (with_fields form op word)
with_fields-HasRegisters R op word = (omega arith, omega arith, omega arith)
with_fields-HasRegisters I op word = (omega arith, omega arith, omega arith)
with_fields-HasRegisters Shift op word = (omega arith, omega arith, omega arith)
with_fields-HasRegisters S op word = (omega arith, omega arith, omega arith)
with_fields-HasRegisters B op word = (omega arith, omega arith, omega arith)
with_fields-HasRegisters U op word = (omega arith, omega arith, omega arith)
with_fields-HasRegisters J op word = (omega arith, omega arith, omega arith)
with_fields-HasRegisters Bare op word = (omega arith, omega arith, omega arith)

-- the clause `registers` of `decode`
pub insn-HasRegisters : (word : ℕ) → IfSome (insn word) HasRegisters
unfolding insn
insn-HasRegisters word =
    reads-IfSome listing HasRegisters (λ row word. with_fields-HasRegisters row.form row.op word) rows word

-- the clause `some` of `decode`
pub insn-Any : (word : ℕ) → IfSome (insn word) (λ i. Any (IsOfRow word i) rows)
unfolding insn
insn-Any word = reads-Any listing rows word

-- the clause `none` of `decode`
pub insn-All : (word : ℕ) → IfNone (insn word) (All (λ row. ¬ HasFixedBits word row) rows)
unfolding insn
insn-All word = reads-All listing rows word

-- the clause of `one_row`: the test computes on the table
pub rows-OneRow : OneRow
unfolding rows
rows-OneRow = all_apart-AllPairs (differs listing listing) Excludes (differs-apart listing listing) rows refl

-- the clause `only` of `decode`
pub insn-of_row : (word : ℕ) → All (λ row. HasFixedBits word row → insn word ≡ Some (insn_of row word)) rows
unfolding insn
insn-of_row word = reads-only listing rows rows-OneRow word

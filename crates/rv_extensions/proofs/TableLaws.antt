-- What holds of the table.
use Rattle.std.proofs.Common.{◌≡◌, ℕ, Some, IfSome, IfNone, All, Any, refl, arith}
use Rattle.rv_fields.proofs.Tables.{reads-IfSome, reads-Any, reads-All, reads-only, reads-apart}
use Rattle.rv_fields.proofs.Tables.{all_apart-AllPairs, differs, differs-apart}
use Rattle.rv_decode.specs.Table.{insn, rows as lines}
use Rattle.rv_decode.proofs.TableLemmas.{listing as base}
use Rattle.rv_extensions.specs.declared.ExtensionOp.{ExtensionOp}
use Rattle.rv_extensions.specs.Table.{Form, Load, Update, Control, Immediate, Bare, rows, HasFixedBits}
use Rattle.rv_extensions.specs.Table.{with_fields, extension_of, extension}
use Rattle.rv_extensions.specs.Laws.{IsOfRow, HasOperands, Excludes, OneRow, ApartFromBase}
use Rattle.rv_extensions.proofs.TableLemmas.{listing}

-- each form's operands are fields of their widths, or 0
pub with_fields-HasOperands : (form : Form) (op : ExtensionOp) (word : ℕ) → HasOperands (with_fields form op word)
with_fields-HasOperands Load op word = (omega arith, omega arith, omega arith, omega arith, omega arith)
with_fields-HasOperands Update op word = (omega arith, omega arith, omega arith, omega arith, omega arith)
with_fields-HasOperands Control op word = (omega arith, omega arith, omega arith, omega arith, omega arith)
with_fields-HasOperands Immediate op word = (omega arith, omega arith, omega arith, omega arith, omega arith)
with_fields-HasOperands Bare op word = (omega arith, omega arith, omega arith, omega arith, omega arith)

-- the clause `operands` of `decode`
pub extension-HasOperands : (word : ℕ) → IfSome (extension word) HasOperands
unfolding extension
extension-HasOperands word =
    reads-IfSome listing HasOperands (λ row word. with_fields-HasOperands row.form row.op word) rows word

-- the clause `some` of `decode`
pub extension-Any : (word : ℕ) → IfSome (extension word) (λ found. Any (IsOfRow word found) rows)
unfolding extension
extension-Any word = reads-Any listing rows word

-- the clause `none` of `decode`
pub extension-All : (word : ℕ) → IfNone (extension word) (All (λ row. ¬ HasFixedBits word row) rows)
unfolding extension
extension-All word = reads-All listing rows word

-- the clause of `one_row`: the test computes on the table
pub rows-OneRow : OneRow
unfolding rows
rows-OneRow = all_apart-AllPairs (differs listing listing) Excludes (differs-apart listing listing) rows refl

-- the clause `only` of `decode`
pub extension-of_row : (word : ℕ)
    → All (λ row. HasFixedBits word row → extension word ≡ Some (extension_of row word)) rows
unfolding extension
extension-of_row word = reads-only listing rows rows-OneRow word

-- the clause of `apart_from_base`: the test computes on both tables
pub extension-ApartFromBase : ApartFromBase
unfolding extension insn rows lines
extension-ApartFromBase word = reads-apart listing base rows lines refl word

-- Each row stands for instructions of the 32-bit listing.
use Rattle.std.proofs.Common.{◌≡◌, ◌<◌, ◌≤◌, ℕ, ◌+◌, ◌-◌, ◌%◌, ◌^◌}
use Rattle.std.proofs.Common.{List, [], ◌∷◌, ◌++◌, IfSome, Any, get_or, length}
use Rattle.std.proofs.Common.{refl, sym, subst, arith, lit<, inl, inr}
use Rattle.std.specs.List.{AllByRecursion}
use Rattle.std.proofs.lemmas.Bool.{cases_eq}
use Rattle.std.proofs.lemmas.List.Elements.{All-contains, All-from_recursion}
use Rattle.std.proofs.lemmas.Option.{IfSome_then}
use Rattle.rv_decode.specs.declared.Insn.{Insn}
use Rattle.rv_decode.specs.declared.Op.TheVariants as ops
use Rattle.rv_fields.specs.Fields.{field}
use Rattle.rv_decode.specs.Table.{I, R, Shift, S, B, U, J, Bare}
use Rattle.rv_decode.specs.Table.{Row as Line, row as line, rows as lines}
use Rattle.rv_compressed.specs.Operands.{rd, rs2, short_rs1, short_rs2, uimm_4spn}
use Rattle.rv_compressed.specs.Operands.{uimm_word, imm_six, imm_jump, imm_16sp}
use Rattle.rv_compressed.specs.Operands.{imm_upper, shift_amount, imm_branch, uimm_lwsp, uimm_swsp}
use Rattle.rv_compressed.specs.Table.{Row, rows, rows_0, immediate_rows}
use Rattle.rv_compressed.specs.Table.{upper_rows, short_rows, jump_rows, rows_1}
use Rattle.rv_compressed.specs.Table.{stack_rows, register_rows, rows_2, insn_with, insn_of, expansion}
use Rattle.rv_compressed.specs.Laws.{IsOfRow, IsSigned, HasOperands, HasRegisters, IsOfLine, Expands, AllExpand}
use Rattle.rv_compressed.specs.Laws.{ShortRegisters}
use Rattle.rv_compressed.proofs.TableLaws.{expansion-Any}

-- ---- immediates

-- a number is signed by its sign
is_signed : (width n sign : ℕ) → sign < 2 → (sign ≡ 0 → n < 2 ^ (width - 1))
    → (sign ≡ 1 → (2 ^ 32 ≤ n + 2 ^ (width - 1)) × (n < 2 ^ 32)) → IsSigned width n
is_signed width n sign small positive negative =
    elim (cases_eq sign 0) [ inl clear ↦ inl (positive clear) | inr other ↦ inr (negative (omega arith)) ]

imm_six-IsSigned : (half : ℕ) → IsSigned 12 (imm_six half)
imm_six-IsSigned half =
    is_signed 12 (imm_six half) (field half 12 12) (omega arith)
    (λ clear. omega arith) (λ sign. (omega arith, omega arith))

imm_16sp-IsSigned : (half : ℕ) → IsSigned 12 (imm_16sp half)
imm_16sp-IsSigned half =
    is_signed 12 (imm_16sp half) (field half 12 12) (omega arith)
    (λ clear. omega arith) (λ sign. (omega arith, omega arith))

imm_jump-IsSigned : (half : ℕ) → IsSigned 21 (imm_jump half)
imm_jump-IsSigned half =
    is_signed 21 (imm_jump half) (field half 12 12) (omega arith)
    (λ clear. omega arith) (λ sign. (omega arith, omega arith))

imm_branch-IsSigned : (half : ℕ) → IsSigned 13 (imm_branch half)
imm_branch-IsSigned half =
    is_signed 13 (imm_branch half) (field half 12 12) (omega arith)
    (λ clear. omega arith) (λ sign. (omega arith, omega arith))

-- ---- lines of the 32-bit listing

-- a line of the 32-bit listing by its number, for an instruction of its operation with operands that it can have
any_line : (insn : Insn) (k : ℕ) (one : Line) → k < length lines → get_or lines k one ≡ one → one.op ≡ insn.op
    → HasOperands one.form insn → HasRegisters insn → Any (IsOfLine insn) lines
any_line insn k one within at same operands registers = (k, one, within, at, (same, operands, registers))

lui_line : (rd imm : ℕ) → rd < 32 → imm < 2 ^ 32 → imm % 2 ^ 12 ≡ 0
    → Any (IsOfLine (insn_with ops.Lui rd 0 0 imm)) lines
unfolding lines
lui_line rd imm has_rd fits clear =
    any_line (insn_with ops.Lui rd 0 0 imm) 0 (line 0x0000007F 0x00000037 U ops.Lui)
    (lit< tt) refl refl (refl, refl, fits, clear)
    (has_rd, lit< tt, lit< tt)

jal_line : (rd imm : ℕ) → rd < 32 → IsSigned 21 imm → imm % 2 ≡ 0
    → Any (IsOfLine (insn_with ops.Jal rd 0 0 imm)) lines
unfolding lines
jal_line rd imm has_rd fits even =
    any_line (insn_with ops.Jal rd 0 0 imm) 2 (line 0x0000007F 0x0000006F J ops.Jal)
    (lit< tt) refl refl (refl, refl, fits, even)
    (has_rd, lit< tt, lit< tt)

jalr_line : (rd rs1 imm : ℕ) → rd < 32 → rs1 < 32 → IsSigned 12 imm
    → Any (IsOfLine (insn_with ops.Jalr rd rs1 0 imm)) lines
unfolding lines
jalr_line rd rs1 imm has_rd has_rs1 fits =
    any_line (insn_with ops.Jalr rd rs1 0 imm) 3 (line 0x0000707F 0x00000067 I ops.Jalr)
    (lit< tt) refl refl (refl, fits)
    (has_rd, has_rs1, lit< tt)

beq_line : (rs1 rs2 imm : ℕ) → rs1 < 32 → rs2 < 32 → IsSigned 13 imm → imm % 2 ≡ 0
    → Any (IsOfLine (insn_with ops.Beq 0 rs1 rs2 imm)) lines
unfolding lines
beq_line rs1 rs2 imm has_rs1 has_rs2 fits even =
    any_line (insn_with ops.Beq 0 rs1 rs2 imm) 4 (line 0x0000707F 0x00000063 B ops.Beq)
    (lit< tt) refl refl (refl, fits, even)
    (lit< tt, has_rs1, has_rs2)

bne_line : (rs1 rs2 imm : ℕ) → rs1 < 32 → rs2 < 32 → IsSigned 13 imm → imm % 2 ≡ 0
    → Any (IsOfLine (insn_with ops.Bne 0 rs1 rs2 imm)) lines
unfolding lines
bne_line rs1 rs2 imm has_rs1 has_rs2 fits even =
    any_line (insn_with ops.Bne 0 rs1 rs2 imm) 5 (line 0x0000707F 0x00001063 B ops.Bne)
    (lit< tt) refl refl (refl, fits, even)
    (lit< tt, has_rs1, has_rs2)

lw_line : (rd rs1 imm : ℕ) → rd < 32 → rs1 < 32 → IsSigned 12 imm
    → Any (IsOfLine (insn_with ops.Lw rd rs1 0 imm)) lines
unfolding lines
lw_line rd rs1 imm has_rd has_rs1 fits =
    any_line (insn_with ops.Lw rd rs1 0 imm) 12 (line 0x0000707F 0x00002003 I ops.Lw)
    (lit< tt) refl refl (refl, fits)
    (has_rd, has_rs1, lit< tt)

sw_line : (rs1 rs2 imm : ℕ) → rs1 < 32 → rs2 < 32 → IsSigned 12 imm
    → Any (IsOfLine (insn_with ops.Sw 0 rs1 rs2 imm)) lines
unfolding lines
sw_line rs1 rs2 imm has_rs1 has_rs2 fits =
    any_line (insn_with ops.Sw 0 rs1 rs2 imm) 17 (line 0x0000707F 0x00002023 S ops.Sw)
    (lit< tt) refl refl (refl, fits)
    (lit< tt, has_rs1, has_rs2)

addi_line : (rd rs1 imm : ℕ) → rd < 32 → rs1 < 32 → IsSigned 12 imm
    → Any (IsOfLine (insn_with ops.Addi rd rs1 0 imm)) lines
unfolding lines
addi_line rd rs1 imm has_rd has_rs1 fits =
    any_line (insn_with ops.Addi rd rs1 0 imm) 18 (line 0x0000707F 0x00000013 I ops.Addi)
    (lit< tt) refl refl (refl, fits)
    (has_rd, has_rs1, lit< tt)

andi_line : (rd rs1 imm : ℕ) → rd < 32 → rs1 < 32 → IsSigned 12 imm
    → Any (IsOfLine (insn_with ops.Andi rd rs1 0 imm)) lines
unfolding lines
andi_line rd rs1 imm has_rd has_rs1 fits =
    any_line (insn_with ops.Andi rd rs1 0 imm) 23 (line 0x0000707F 0x00007013 I ops.Andi)
    (lit< tt) refl refl (refl, fits)
    (has_rd, has_rs1, lit< tt)

slli_line : (rd rs1 imm : ℕ) → rd < 32 → rs1 < 32 → imm < 32
    → Any (IsOfLine (insn_with ops.Slli rd rs1 0 imm)) lines
unfolding lines
slli_line rd rs1 imm has_rd has_rs1 fits =
    any_line (insn_with ops.Slli rd rs1 0 imm) 24 (line 0xFE00707F 0x00001013 Shift ops.Slli)
    (lit< tt) refl refl (refl, fits)
    (has_rd, has_rs1, lit< tt)

srli_line : (rd rs1 imm : ℕ) → rd < 32 → rs1 < 32 → imm < 32
    → Any (IsOfLine (insn_with ops.Srli rd rs1 0 imm)) lines
unfolding lines
srli_line rd rs1 imm has_rd has_rs1 fits =
    any_line (insn_with ops.Srli rd rs1 0 imm) 25 (line 0xFE00707F 0x00005013 Shift ops.Srli)
    (lit< tt) refl refl (refl, fits)
    (has_rd, has_rs1, lit< tt)

srai_line : (rd rs1 imm : ℕ) → rd < 32 → rs1 < 32 → imm < 32
    → Any (IsOfLine (insn_with ops.Srai rd rs1 0 imm)) lines
unfolding lines
srai_line rd rs1 imm has_rd has_rs1 fits =
    any_line (insn_with ops.Srai rd rs1 0 imm) 26 (line 0xFE00707F 0x40005013 Shift ops.Srai)
    (lit< tt) refl refl (refl, fits)
    (has_rd, has_rs1, lit< tt)

add_line : (rd rs1 rs2 : ℕ) → rd < 32 → rs1 < 32 → rs2 < 32
    → Any (IsOfLine (insn_with ops.Add rd rs1 rs2 0)) lines
unfolding lines
add_line rd rs1 rs2 has_rd has_rs1 has_rs2 =
    any_line (insn_with ops.Add rd rs1 rs2 0) 27 (line 0xFE00707F 0x00000033 R ops.Add)
    (lit< tt) refl refl refl
    (has_rd, has_rs1, has_rs2)

sub_line : (rd rs1 rs2 : ℕ) → rd < 32 → rs1 < 32 → rs2 < 32
    → Any (IsOfLine (insn_with ops.Sub rd rs1 rs2 0)) lines
unfolding lines
sub_line rd rs1 rs2 has_rd has_rs1 has_rs2 =
    any_line (insn_with ops.Sub rd rs1 rs2 0) 28 (line 0xFE00707F 0x40000033 R ops.Sub)
    (lit< tt) refl refl refl
    (has_rd, has_rs1, has_rs2)

xor_line : (rd rs1 rs2 : ℕ) → rd < 32 → rs1 < 32 → rs2 < 32
    → Any (IsOfLine (insn_with ops.Xor rd rs1 rs2 0)) lines
unfolding lines
xor_line rd rs1 rs2 has_rd has_rs1 has_rs2 =
    any_line (insn_with ops.Xor rd rs1 rs2 0) 32 (line 0xFE00707F 0x00004033 R ops.Xor)
    (lit< tt) refl refl refl
    (has_rd, has_rs1, has_rs2)

or_line : (rd rs1 rs2 : ℕ) → rd < 32 → rs1 < 32 → rs2 < 32
    → Any (IsOfLine (insn_with ops.Or rd rs1 rs2 0)) lines
unfolding lines
or_line rd rs1 rs2 has_rd has_rs1 has_rs2 =
    any_line (insn_with ops.Or rd rs1 rs2 0) 35 (line 0xFE00707F 0x00006033 R ops.Or)
    (lit< tt) refl refl refl
    (has_rd, has_rs1, has_rs2)

and_line : (rd rs1 rs2 : ℕ) → rd < 32 → rs1 < 32 → rs2 < 32
    → Any (IsOfLine (insn_with ops.And rd rs1 rs2 0)) lines
unfolding lines
and_line rd rs1 rs2 has_rd has_rs1 has_rs2 =
    any_line (insn_with ops.And rd rs1 rs2 0) 36 (line 0xFE00707F 0x00007033 R ops.And)
    (lit< tt) refl refl refl
    (has_rd, has_rs1, has_rs2)

ebreak_line : Any (IsOfLine (insn_with ops.Ebreak 0 0 0 0)) lines
unfolding lines
ebreak_line =
    any_line (insn_with ops.Ebreak 0 0 0 0) 39 (line 0xFFFFFFFF 0x00100073 Bare ops.Ebreak)
    (lit< tt) refl refl (refl, refl, refl, refl)
    (lit< tt, lit< tt, lit< tt)

-- ---- rows

-- a fact of both lists is one of the whole
and_then : (some others : List Row) → AllByRecursion Expands some → AllByRecursion Expands others
    → AllByRecursion Expands (some ++ others)
and_then [] others here there = there
and_then (r ∷ rs) others (first, rest) there = (first, and_then rs others rest there)

rows_0-Expands : AllByRecursion Expands rows_0
rows_0-Expands = (
  λ half. addi_line (short_rs2 half) 2 (uimm_4spn half) (omega arith) (lit< tt) (inl (omega arith)),
  (
    λ half. lw_line (short_rs2 half) (short_rs1 half) (uimm_word half) (omega arith) (omega arith) (inl (omega arith)),
    (
      λ half. sw_line (short_rs1 half) (short_rs2 half) (uimm_word half) (omega arith) (omega arith)
          (inl (omega arith)),
      tt,
    ),
  ),
)

immediate_rows-Expands : AllByRecursion Expands immediate_rows
immediate_rows-Expands = (
  λ half. addi_line (rd half) (rd half) (imm_six half) (omega arith) (omega arith) (imm_six-IsSigned half),
  (
    λ half. jal_line 1 (imm_jump half) (lit< tt) (imm_jump-IsSigned half) (omega arith),
    (
      λ half. addi_line (rd half) 0 (imm_six half) (omega arith) (lit< tt) (imm_six-IsSigned half),
      tt,
    ),
  ),
)

upper_rows-Expands : AllByRecursion Expands upper_rows
upper_rows-Expands = (
  λ half. addi_line 2 2 (imm_16sp half) (lit< tt) (lit< tt) (imm_16sp-IsSigned half),
  (
    λ half. lui_line (rd half) (imm_upper half) (omega arith) (omega arith) (omega arith),
    tt,
  ),
)

short_rows-Expands : AllByRecursion Expands short_rows
short_rows-Expands = (
  λ half. srli_line (short_rs1 half) (short_rs1 half) (shift_amount half) (omega arith) (omega arith) (omega arith),
  (
    λ half. srai_line (short_rs1 half) (short_rs1 half) (shift_amount half) (omega arith) (omega arith) (omega arith),
    (
      λ half. andi_line (short_rs1 half) (short_rs1 half) (imm_six half) (omega arith) (omega arith)
          (imm_six-IsSigned half),
      (
        λ half. sub_line (short_rs1 half) (short_rs1 half) (short_rs2 half) (omega arith) (omega arith) (omega arith),
        (
          λ half. xor_line (short_rs1 half) (short_rs1 half) (short_rs2 half)
              (omega arith) (omega arith) (omega arith),
          (
            λ half. or_line (short_rs1 half) (short_rs1 half) (short_rs2 half)
                (omega arith) (omega arith) (omega arith),
            (
              λ half. and_line (short_rs1 half) (short_rs1 half) (short_rs2 half)
                  (omega arith) (omega arith) (omega arith),
              tt,
            ),
          ),
        ),
      ),
    ),
  ),
)

jump_rows-Expands : AllByRecursion Expands jump_rows
jump_rows-Expands = (
  λ half. jal_line 0 (imm_jump half) (lit< tt) (imm_jump-IsSigned half) (omega arith),
  (
    λ half. beq_line (short_rs1 half) 0 (imm_branch half) (omega arith) (lit< tt)
        (imm_branch-IsSigned half) (omega arith),
    (
      λ half. bne_line (short_rs1 half) 0 (imm_branch half) (omega arith) (lit< tt)
          (imm_branch-IsSigned half) (omega arith),
      tt,
    ),
  ),
)

stack_rows-Expands : AllByRecursion Expands stack_rows
stack_rows-Expands = (
  λ half. slli_line (rd half) (rd half) (shift_amount half) (omega arith) (omega arith) (omega arith),
  (
    λ half. lw_line (rd half) 2 (uimm_lwsp half) (omega arith) (lit< tt) (inl (omega arith)),
    (
      λ half. sw_line 2 (rs2 half) (uimm_swsp half) (lit< tt) (omega arith) (inl (omega arith)),
      tt,
    ),
  ),
)

register_rows-Expands : AllByRecursion Expands register_rows
register_rows-Expands = (
  λ half. jalr_line 0 (rd half) 0 (lit< tt) (omega arith) (inl (lit< tt)),
  (
    λ half. add_line (rd half) 0 (rs2 half) (omega arith) (lit< tt) (omega arith),
    (
      λ half. ebreak_line,
      (
        λ half. jalr_line 1 (rd half) 0 (lit< tt) (omega arith) (inl (lit< tt)),
        (
          λ half. add_line (rd half) (rd half) (rs2 half) (omega arith) (omega arith) (omega arith),
          tt,
        ),
      ),
    ),
  ),
)

rows_1-Expands : AllByRecursion Expands rows_1
rows_1-Expands =
    and_then (immediate_rows ++ upper_rows ++ short_rows) jump_rows
    (and_then (immediate_rows ++ upper_rows) short_rows
    (and_then immediate_rows upper_rows immediate_rows-Expands upper_rows-Expands) short_rows-Expands)
    jump_rows-Expands

rows_2-Expands : AllByRecursion Expands rows_2
rows_2-Expands = and_then stack_rows register_rows stack_rows-Expands register_rows-Expands

-- the clause of `each_expands`
pub rows-AllExpand : AllExpand
unfolding rows
rows-AllExpand =
    All-from_recursion Expands rows
    (and_then (rows_0 ++ rows_1) rows_2 (and_then rows_0 rows_1 rows_0-Expands rows_1-Expands) rows_2-Expands)

-- the registers of what a row reads
pub IsOfRow-HasRegisters : (half : ℕ) (insn : Insn) → Any (IsOfRow half insn) rows → HasRegisters insn
IsOfRow-HasRegisters half insn (k, row, within, at, (of, is)) =
    registers_of (insn_of row half) insn is
    (All-contains Expands rows row rows-AllExpand (k, within, at) half)
  where
    registers_of : (read insn : Insn) → insn ≡ read → Any (IsOfLine read) lines → HasRegisters insn
    registers_of read insn is (k, line, within, at, (op, operands, registers)) = subst HasRegisters (sym is) registers

-- the clause `registers` of `expand`
pub expansion-HasRegisters : (half : ℕ) → IfSome (expansion half) HasRegisters
expansion-HasRegisters half =
    IfSome_then (expansion half) (expansion-Any half) (λ insn. IsOfRow-HasRegisters half insn)

-- the line of the listing that an expansion is of
pub expansion-IsOfLine : (half : ℕ) → IfSome (expansion half) (λ insn. Any (IsOfLine insn) lines)
expansion-IsOfLine half =
    IfSome_then (expansion half) (expansion-Any half)
    (λ insn any. of_row half insn any)
  where
    of_row : (half : ℕ) (insn : Insn) → Any (IsOfRow half insn) rows → Any (IsOfLine insn) lines
    of_row half insn (k, row, within, at, (of, is)) =
        subst (λ (i : Insn). Any (IsOfLine i) lines) (sym is)
        (All-contains Expands rows row rows-AllExpand (k, within, at) half)

-- the clause of `short_registers`
pub short_registers-ShortRegisters : ShortRegisters
short_registers-ShortRegisters half = (omega arith, omega arith, omega arith, omega arith)

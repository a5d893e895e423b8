-- A machine without extensions takes their words for no instruction.
use Rattle.std.proofs.Common.{◌≡◌, ℕ, ◌%◌, ◌==◌, ◌&&◌, false, cond, refl, ap, List, Option, Some, None, not}
use Rattle.guest_elf.specs.Profiles.{has_atomics, has_controls, rv32im}
use Rattle.instructions.specs.Controls as Writes
use Rattle.instructions.specs.Instructions.{extension_by, extension_of, if_extension, if_row, row_of, row_or}
use Rattle.instructions.specs.declared.atomic.Atomic.{Atomic}
use Rattle.instructions.specs.declared.atomic.Atomic.TheVariants.{LoadReserved, StoreConditional}
use Rattle.instructions.specs.declared.atomic.Atomic.TheVariants.{Update as Updating}
use Rattle.instructions.specs.declared.atomic.Update.{Update}
use Rattle.instructions.specs.declared.atomic.Update.TheVariants as kinds
use Rattle.instructions.specs.declared.control.ControlAccess.{ControlAccess}
use Rattle.instructions.specs.declared.control.ControlAccess.TheVariants.{Write, Set, Clear}
use Rattle.instructions.specs.declared.control.ControlOperand.{ControlOperand}
use Rattle.instructions.specs.declared.control.ControlOperand.TheVariants as operands
use Rattle.instructions.specs.declared.instruction.Instruction.{Instruction}
use Rattle.instructions.specs.declared.instruction.Instruction.TheVariants as rows
use Rattle.rv_decode.specs.Table.{insn}
use Rattle.rv_extensions.specs.Table.{extension}
use Rattle.rv_extensions.specs.declared.Extension.{Extension}
use Rattle.rv_extensions.specs.declared.ExtensionOp.{ExtensionOp}
use Rattle.rv_extensions.specs.declared.ExtensionOp.TheVariants as ops
use Rattle.run_values.specs.declared.status.Stop.TheVariants.{Illegal, Misaligned}
use Rattle.guest_machine.specs.State.{Core}
use Rattle.guest_machine.specs.Atomics.{admits, admitted, atomic_effect, atomic_reads, atomic_span, atomic_start}
use Rattle.guest_machine.specs.Atomics.{atomic_writes, is_reserved, read_if, written_if}
use Rattle.guest_machine.specs.Controls.{barrier, control, control_effect, controls_after, has_control, is_read_only}
use Rattle.guest_machine.specs.Effects.{moved_to, quiet, raising, results_in, stopped, stops}
use Rattle.guest_machine.specs.Errors.{value_errors}
use Rattle.guest_machine.specs.Registers.{tested}
use Rattle.guest_machine.specs.Exec.{Terms, atomic_uses, calls_heap, nothing, row_asks, row_effect, row_uses}
use Rattle.guest_machine.specs.Laws.{HasBaseWords, LacksAtomics, LacksExtensions}

-- what is said of each class of the table of extensions holds for each row of it
by-class : (P : Instruction → Type 0) → ((rd rs1 : ℕ) → P (rows.LoadReserved rd rs1))
    → ((rd rs1 rs2 : ℕ) → P (rows.StoreConditional rd rs1 rs2))
    → ((update : Update) (rd rs1 rs2 : ℕ) → P (rows.Update update rd rs1 rs2))
    → ((access : ControlAccess) (rd number : ℕ) (operand : ControlOperand) → P (rows.Control access rd number operand))
    → P rows.Barrier → (e : Extension) → P (extension_of e)
unfolding extension_of
by-class P loads stores updates controls barrier e = go e.op
  where
    go : (op : ExtensionOp) → P (extension_by op e.csr e.rd e.rs1 e.rs2 e.uimm)
    go ops.LrW = loads e.rd e.rs1
    go ops.ScW = stores e.rd e.rs1 e.rs2
    go ops.AmoswapW = updates kinds.Swap e.rd e.rs1 e.rs2
    go ops.AmoaddW = updates kinds.Add e.rd e.rs1 e.rs2
    go ops.AmoxorW = updates kinds.Xor e.rd e.rs1 e.rs2
    go ops.AmoandW = updates kinds.And e.rd e.rs1 e.rs2
    go ops.AmoorW = updates kinds.Or e.rd e.rs1 e.rs2
    go ops.AmominW = updates kinds.Min e.rd e.rs1 e.rs2
    go ops.AmomaxW = updates kinds.Max e.rd e.rs1 e.rs2
    go ops.AmominuW = updates kinds.MinUnsigned e.rd e.rs1 e.rs2
    go ops.AmomaxuW = updates kinds.MaxUnsigned e.rd e.rs1 e.rs2
    go ops.Csrrw = controls Write e.rd e.csr (operands.Register e.rs1)
    go ops.Csrrs = controls Set e.rd e.csr (operands.Register e.rs1)
    go ops.Csrrc = controls Clear e.rd e.csr (operands.Register e.rs1)
    go ops.Csrrwi = controls Write e.rd e.csr (operands.Immediate e.uimm)
    go ops.Csrrsi = controls Set e.rd e.csr (operands.Immediate e.uimm)
    go ops.Csrrci = controls Clear e.rd e.csr (operands.Immediate e.uimm)
    go ops.FenceI = barrier
    go ops.Wfi = barrier

-- what is said of a row follows where it is so of each row of the table of extensions, and of those of the first table
each-word : {R : Type 0} (of : Option Instruction → R)
    → ((e : Extension) → of (Some (extension_of e)) ≡ of None)
    → (word : ℕ) → of (row_of word) ≡ of (if_row (insn word))
unfolding row_of
each-word of same word = go (if_row (insn word))
  where
    second : (found : Option Extension) → of (if_extension found) ≡ of None
    second None = refl
    second (Some e) = same e

    go : (row : Option Instruction) → of (row_or row (if_extension (extension word))) ≡ of row
    go (Some row) = refl
    go None = second (extension word)

-- ---- without atomic instructions

module _ (core : Core) (none : has_atomics core.isa ≡ false) where
  effect : (next : ℕ) (atomic : Atomic) (rd rs1 rs2 : ℕ) (taken : ℕ → ℕ)
      → atomic_effect core next atomic rd rs1 rs2 taken ≡ stops core Illegal
  unfolding atomic_effect admits
  effect next atomic rd rs1 rs2 taken =
      ap (λ has. cond (has && (atomic_start core rs1 % 4 == 0)) (admitted core next atomic rd rs1 rs2 taken)
      (cond has (raising (stopped (tested core rs1) Misaligned) (value_errors core rs1)) (stops core Illegal))) none

  reads : (atomic : Atomic) (rs1 : ℕ) → atomic_reads core atomic rs1 ≡ None
  unfolding atomic_reads admits
  reads atomic rs1 =
      ap (λ has. cond (has && (atomic_start core rs1 % 4 == 0)) (read_if atomic (atomic_span core rs1)) None) none

  writes : (atomic : Atomic) (rs1 : ℕ) → atomic_writes core atomic rs1 ≡ None
  unfolding atomic_writes admits
  writes atomic rs1 =
      ap (λ has. cond (has && (atomic_start core rs1 % 4 == 0))
      (written_if (is_reserved core rs1) atomic (atomic_span core rs1)) None) none

  none-used : (atomic : Atomic) (rs1 : ℕ) → atomic_uses core atomic rs1 ≡ nothing
  none-used atomic rs1 = λ i. record { reads = reads atomic rs1 i; writes = writes atomic rs1 i }

pub lacks-atomics : LacksAtomics
lacks-atomics core none = record { effects = effect core none; uses = none-used core none }

-- ---- RV32IM

module _ (core : Core) (base : core.isa ≡ rv32im) where
  no-atomics : has_atomics core.isa ≡ false
  unfolding has_atomics
  no-atomics = ap has_atomics base

  no-controls : has_controls core.isa ≡ false
  unfolding has_controls
  no-controls = ap has_controls base

  control-stops : (next : ℕ) (access : ControlAccess) (rd number : ℕ) (operand : ControlOperand)
      → control_effect core next access rd number operand ≡ stops core Illegal
  unfolding control_effect has_control
  control-stops next access rd number operand =
      ap (λ has. cond (has && not (Writes.writes access operand && is_read_only number))
      (results_in (record core { controls = controls_after core access number operand }) next rd (control core number))
      (stops core Illegal)) no-controls

  barrier-stops : (next : ℕ) → barrier core next ≡ stops core Illegal
  unfolding barrier
  barrier-stops next = ap (λ has. cond has (quiet (moved_to core next)) (stops core Illegal)) no-controls

  row-stops : (next : ℕ) (terms : Terms) (given : List ℕ) (taken : ℕ → ℕ) (e : Extension)
      → row_effect core next (Some (extension_of e)) terms given taken ≡ row_effect core next None terms given taken
  unfolding row_effect
  row-stops next terms given taken =
      by-class (λ row. row_effect core next (Some row) terms given taken ≡ stops core Illegal)
      (λ rd rs1. effect core no-atomics next LoadReserved rd rs1 0 taken)
      (λ rd rs1 rs2. effect core no-atomics next StoreConditional rd rs1 rs2 taken)
      (λ update rd rs1 rs2. effect core no-atomics next (Updating update) rd rs1 rs2 taken) (control-stops next)
      (barrier-stops next)

  none-in-row : (terms : Terms) (e : Extension) → row_uses core (Some (extension_of e)) terms ≡ row_uses core None terms
  unfolding row_uses
  none-in-row terms =
      by-class (λ row. row_uses core (Some row) terms ≡ nothing)
      (λ rd rs1. none-used core no-atomics LoadReserved rs1)
      (λ rd rs1 rs2. none-used core no-atomics StoreConditional rs1)
      (λ update rd rs1 rs2. none-used core no-atomics (Updating update) rs1) (λ access rd number operand. refl) refl

  none-asked : (e : Extension) → row_asks core (Some (extension_of e)) ≡ row_asks core None
  unfolding row_asks
  none-asked =
      by-class (λ row. row_asks core (Some row) ≡ None) (λ rd rs1. refl) (λ rd rs1 rs2. refl)
      (λ update rd rs1 rs2. refl) (λ access rd number operand. refl) refl

  none-called : (e : Extension) → calls_heap core (Some (extension_of e)) ≡ calls_heap core None
  unfolding calls_heap
  none-called =
      by-class (λ row. calls_heap core (Some row) ≡ false) (λ rd rs1. refl) (λ rd rs1 rs2. refl)
      (λ update rd rs1 rs2. refl) (λ access rd number operand. refl) refl

  words : HasBaseWords core
  words = record {
    effects = λ next word terms given taken.
        each-word (λ row. row_effect core next row terms given taken) (row-stops next terms given taken) word;
    uses = λ word terms. each-word (λ row. row_uses core row terms) (none-in-row terms) word;
    asks = each-word (row_asks core) none-asked;
    heap = each-word (calls_heap core) none-called;
  }

pub lacks-extensions : LacksExtensions
lacks-extensions core base = words core base

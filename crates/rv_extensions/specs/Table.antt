-- The instructions of A, Zicsr and Zifencei, and WFI, as the fixed bits of their words.
-- Source: RISC-V Unprivileged ISA 20191213, chapter 24 (listing), chapters 8 (A), 9 (Zicsr) and 3 (Zifencei); RISC-V
-- Privileged Architecture 20190608, section 3.2.3 (WFI).
use Rattle.std.specs.Prelude.{◌≡◌, ℕ, Bool, List, [], ◌∷◌, ◌++◌, Option, bit_and, find, ◌==◌}
use Rattle.std.specs.Option.{option_map}
use Rattle.rv_fields.specs.Fields.{field, rd, rs1, rs2}
use Rattle.rv_extensions.specs.declared.Extension.{Extension}
use Rattle.rv_extensions.specs.declared.ExtensionOp.{ExtensionOp}
use Rattle.rv_extensions.specs.declared.ExtensionOp.TheVariants as ops

-- the number of the control register (section 9.1)
abbrev pub csr : ℕ → ℕ
csr word = field word 31 20

-- the immediate of CSRRWI, CSRRSI and CSRRCI (section 9.1)
abbrev pub uimm : ℕ → ℕ
uimm word = field word 19 15

-- which bits of a word are its operands
pub data Form : Type 0 where
  -- LR: rd and rs1
  Load : Form
  -- SC and AMOs: rd, rs1 and rs2
  Update : Form
  -- a control register with rd and rs1
  Control : Form
  -- a control register with rd and an immediate
  Immediate : Form
  Bare : Form

-- a line of the listing: the bits of the mask are fixed, to those of the value
pub record Row : Type 0 where
  pub mask : ℕ
  pub value : ℕ
  pub form : Form
  pub op : ExtensionOp

-- a row by its parts
abbrev pub row : ℕ → ℕ → Form → ExtensionOp → Row
row mask value form op = record { mask = mask; value = value; form = form; op = op }

-- the load that reserves its address (section 8.2); bits 26 and 25, aq and rl, are free, here and in the next
abbrev pub load_rows : List Row
load_rows = row 0xF9F0707F 0x1000202F Load ops.LrW ∷ []

-- the store on that condition (section 8.2), and the AMOs (section 8.4)
abbrev pub update_rows : List Row
update_rows =
    row 0xF800707F 0x1800202F Update ops.ScW
    ∷ row 0xF800707F 0x0800202F Update ops.AmoswapW
    ∷ row 0xF800707F 0x0000202F Update ops.AmoaddW
    ∷ row 0xF800707F 0x2000202F Update ops.AmoxorW
    ∷ row 0xF800707F 0x6000202F Update ops.AmoandW
    ∷ row 0xF800707F 0x4000202F Update ops.AmoorW
    ∷ row 0xF800707F 0x8000202F Update ops.AmominW
    ∷ row 0xF800707F 0xA000202F Update ops.AmomaxW
    ∷ row 0xF800707F 0xC000202F Update ops.AmominuW
    ∷ row 0xF800707F 0xE000202F Update ops.AmomaxuW
    ∷ []

-- control registers (chapter 9), and a wait for an interrupt (Privileged Architecture, section 3.2.3)
abbrev pub system_rows : List Row
system_rows =
    row 0x0000707F 0x00001073 Control ops.Csrrw
    ∷ row 0x0000707F 0x00002073 Control ops.Csrrs
    ∷ row 0x0000707F 0x00003073 Control ops.Csrrc
    ∷ row 0x0000707F 0x00005073 Immediate ops.Csrrwi
    ∷ row 0x0000707F 0x00006073 Immediate ops.Csrrsi
    ∷ row 0x0000707F 0x00007073 Immediate ops.Csrrci
    ∷ row 0xFFFFFFFF 0x10500073 Bare ops.Wfi
    ∷ []

-- the fence of fetches, whose other fields are free (chapter 3)
abbrev pub fence_rows : List Row
fence_rows = row 0x0000707F 0x0000100F Bare ops.FenceI ∷ []

-- the listing
unfoldable pub rows : List Row
rows = load_rows ++ update_rows ++ system_rows ++ fence_rows

-- the word has the fixed bits of the row
abbrev pub HasFixedBits : ℕ → Row → Type 0
HasFixedBits word row = bit_and word row.mask ≡ row.value

-- the same, as a test
abbrev pub has_fixed_bits : ℕ → Row → Bool
has_fixed_bits word row = bit_and word row.mask == row.value

-- the operation with those fields of the word that the form has, and 0 for the others
abbrev pub with_fields : Form → ExtensionOp → ℕ → Extension
with_fields Load op word = record { op = op; csr = 0; rd = rd word; rs1 = rs1 word; rs2 = 0; uimm = 0 }
with_fields Update op word = record { op = op; csr = 0; rd = rd word; rs1 = rs1 word; rs2 = rs2 word; uimm = 0 }
with_fields Control op word = record { op = op; csr = csr word; rd = rd word; rs1 = rs1 word; rs2 = 0; uimm = 0 }
with_fields Immediate op word = record { op = op; csr = csr word; rd = rd word; rs1 = 0; rs2 = 0; uimm = uimm word }
with_fields Bare op word = record { op = op; csr = 0; rd = 0; rs1 = 0; rs2 = 0; uimm = 0 }

-- the instruction that the row reads from the word
abbrev pub extension_of : Row → ℕ → Extension
extension_of row word = with_fields row.form row.op word

-- the instruction of a word: that of the first row whose fixed bits the word has
unfoldable pub extension : ℕ → Option Extension
extension word = option_map (λ row. extension_of row word) (find (has_fixed_bits word) rows)

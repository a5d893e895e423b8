-- What a set of control and status registers holds, however it is kept: a function of the register's number. Contracts
-- speak only of `registers_in`.
use Rattle.std.specs.Prelude.{ℕ, Option, Some, None}
use Rattle.std.specs.Option.{unwrap_or}
use Rattle.std.specs.Ordering.{nat_cmp}
use Rattle.std.specs.BTreeMap.{BTreeMap, get}
use Rattle.std.specs.declared.rc.Rc.{Rc}
use Rattle.std.specs.declared.alloc.Global.{Global}
use Rattle.definedness.specs.declared.Bits.{Bits}
use Rattle.control_registers.specs.Registers.{no_registers}
use Rattle.control_registers.specs.declared.registers.ControlRegisters.{ControlRegisters}

-- the registers of a map from the numbers of those that were written to what they have
abbrev pub mapped : BTreeMap ℕ Bits → ℕ → Bits
mapped map n = unwrap_or (get nat_cmp map n) (no_registers n)

-- the registers of a map that is absent if none was written
abbrev pub written_in : Option (Rc (BTreeMap ℕ Bits) Global) → ℕ → Bits
written_in None = no_registers
written_in (Some shared) = mapped shared.value

-- what the register of each number has
unfoldable pub registers_in : ControlRegisters → ℕ → Bits
registers_in registers = written_in registers.written

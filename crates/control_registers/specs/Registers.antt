-- Control and status registers, by their numbers.
-- Source: RISC-V Unprivileged ISA 20191213, chapter 9 ("a separate address space of 4096 Control and Status registers
-- associated with each hart"). That a register has 0 until it is written is this project's own.
use Rattle.std.specs.Prelude.{ℕ, ◌==◌, if◌then◌else◌}
use Rattle.definedness.specs.declared.Bits.{Bits}

-- none is written yet: each register has 0, defined
abbrev pub no_registers : ℕ → Bits
no_registers n = record { value = 0; undef = 0 }

-- after a write: the register of the number has what was written, and each other register what it had
abbrev pub with_register : (ℕ → Bits) → ℕ → Bits → ℕ → Bits
with_register old number bits n = (if n == number then bits else old n)

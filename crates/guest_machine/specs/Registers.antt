-- The registers (RISC-V Unprivileged ISA 20191213, section 2.1): x0 is 0, and what is written to it is dropped.
use Rattle.std.specs.Prelude.{ℕ, ◌==◌, if◌then◌else◌, slice_index_or, slice_set}
use Rattle.definedness.specs.declared.Bits.{Bits}
use Rattle.guest_machine.specs.State.{Core}

-- a number with no undefined bit
abbrev pub known : ℕ → Bits
known n = record { value = n; undef = 0 }

unfoldable pub register : Core → ℕ → Bits
register core r = if r == 0 then known 0 else slice_index_or core.registers r (known 0)

unfoldable pub set_register : Core → ℕ → Bits → Core
set_register core r bits =
    record core { registers = if r == 0 then core.registers else slice_set core.registers r bits }

-- a register made defined
abbrev pub defined : Core → ℕ → Core
defined core r = set_register core r (known (register core r).value)

-- after a test that a register is defined: the test makes it so
unfoldable pub tested : Core → ℕ → Core
tested core r = if (register core r).undef == 0 then core else defined core r

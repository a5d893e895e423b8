-- What comparing only the registers that were written shows.
use Rattle.std.specs.Prelude.{◌≡◌, ◌⊎◌, ℕ}
use Rattle.definedness.specs.declared.Bits.{Bits}
use Rattle.control_registers.specs.Registers.{no_registers}

-- each register has what another set's register has, or 0
abbrev pub HasSameOrZero : (ℕ → Bits) → (ℕ → Bits) → Type 0
HasSameOrZero registers others = (n : ℕ) → (registers n ≡ others n) ⊎ (registers n ≡ no_registers n)

-- What an alteration makes of a state between two steps. No error is raised, and nothing that only increases changes.
use Rattle.std.specs.Prelude.{ℕ, ◌&&◌, Bool, true, false, if◌then◌else◌}
use Rattle.definedness.specs.Operations.{xor_of}
use Rattle.definedness.specs.declared.Bits.{Bits}
use Rattle.guest_elf.specs.Profiles.{has_halves, is_half}
use Rattle.guest_elf.specs.declared.profile.Isa.{Isa}
use Rattle.instructions.specs.Widths.{width_len}
use Rattle.shadow_memory.specs.Ranges.{written, byte_of, little_word, window}
use Rattle.shadow_memory.specs.Shadows.{made_so}
use Rattle.guest_machine.specs.State.{Core, State}
use Rattle.guest_machine.specs.Registers.{register, set_register}
use Rattle.guest_machine.specs.Effects.{moved_to, next_of, stored_core}
use Rattle.guest_machine.specs.Exec.{half_at, is_running, steps_on}
use Rattle.run_values.specs.declared.alteration.Act.{Act}
use Rattle.run_values.specs.declared.alteration.Act.TheVariants.{Make, Set, Flip, Jump, FlipPc, Write, Turn, Skip}
use Rattle.run_values.specs.declared.alteration.Alteration.{Alteration}

-- does it change a machine at all? A range is made so at any time; one that has exited or stopped keeps all else
abbrev pub alters : Act → Core → Bool
alters (Make addr len kind) core = true
alters _ core = is_running core.status

-- a number with bits turned; its undefined bits stay undefined
abbrev pub turned : Bits → ℕ → Bits
turned bits mask = record { value = xor_of bits.value mask; undef = bits.undef }

-- the length of the instruction at pc, as a fetch decides it, by the bytes there, accessible or not
abbrev pub len_here : Core → (ℕ → ℕ) → ℕ
len_here core bytes = if is_half core.isa (half_at core bytes) then 2 else 4

abbrev pub is_skip : Act → Bool
is_skip Skip = true
is_skip _ = false

-- is what it makes of a core decided by byte values? Those of the half at pc decide how far a skip goes, if there are
-- instructions of 16 bits
abbrev pub goes_by_bytes : Isa → Act → Bool
goes_by_bytes isa act = has_halves isa && is_skip act

-- an instruction of this length passed over. It counts as a step, where there are counters of steps, as one that does
-- nothing would
abbrev pub passed : Core → ℕ → Core
passed core len = record (moved_to core (next_of core len)) { steps = steps_on core }

-- what it makes of all that decides a step besides the byte values. The stack pointer rule is for instructions only
abbrev pub core_by : Act → Core → (ℕ → ℕ) → Core
core_by (Make addr len kind) core bytes = record core { shadow = made_so core.shadow addr len kind }
core_by (Set r value undef) core bytes = set_register core r (record { value = value; undef = undef })
core_by (Flip r mask) core bytes = set_register core r (turned (register core r) mask)
core_by (Jump target) core bytes = moved_to core target
core_by (FlipPc mask) core bytes = moved_to core (xor_of core.pc mask)
core_by (Write addr width value) core bytes = stored_core core addr (width_len width) 0
core_by (Turn addr mask) core bytes = core
core_by Skip core bytes = passed core (len_here core bytes)

-- and of the byte values
abbrev pub bytes_by : Act → (ℕ → ℕ) → ℕ → ℕ
bytes_by (Write addr width value) bytes = written bytes addr (width_len width) (byte_of value)
bytes_by (Turn addr mask) bytes = written bytes addr 4 (byte_of (xor_of (little_word (window bytes addr 4)) mask))
bytes_by _ bytes = bytes

unfoldable pub altered_core : Act → Core → (ℕ → ℕ) → Core
altered_core act core bytes = if alters act core then core_by act core bytes else core

unfoldable pub altered_bytes : Act → Core → (ℕ → ℕ) → ℕ → ℕ
altered_bytes act core bytes = if alters act core then bytes_by act bytes else bytes

-- an alteration applied
unfoldable pub altered : State → Alteration → State
altered s alteration =
    record s {
      bytes = altered_bytes alteration.act s.core s.bytes;
      core = altered_core alteration.act s.core s.bytes;
    }

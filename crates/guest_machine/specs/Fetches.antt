-- Where a code that a step fetches begins, and how long it is (RISC-V Unprivileged ISA 20191213, section 1.5).
use Rattle.std.specs.Prelude.{◌≡◌, ◌%◌, ◌≤◌, IfSome}
use Rattle.guest_elf.specs.Profiles.{unit}
use Rattle.guest_elf.specs.declared.profile.Isa.{Isa}
use Rattle.guest_machine.specs.State.{State}
use Rattle.guest_machine.specs.Exec.{touched_of}
use Rattle.guest_machine.specs.declared.setup.Setup.{Setup}
use Rattle.run_values.specs.declared.span.Span.{Span}

-- a range begins where an instruction may, and is as long as one; with RV32IM it is four bytes from a multiple of 4 on
pub record IsCodeOf (isa : Isa) (span : Span) : Type 0 where
  pub aligned : span.start % unit isa ≡ 0
  pub whole : unit isa ≤ span.len
  pub few : span.len ≤ 4

-- so is what a step fetches, be it a code or the first half of one
abbrev pub FetchesCodes : Type 0
FetchesCodes = (setup : Setup) (s : State) → IfSome (touched_of s setup).fetch (IsCodeOf s.core.isa)

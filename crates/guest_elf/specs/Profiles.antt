-- What a file is read for, besides its own bytes: an instruction set (RISC-V Unprivileged ISA 20191213, chapter
-- 27, "ISA Extension Naming Conventions"), the regions of heap and stack, and how many bytes `read` and `write` move.
use Rattle.std.specs.Prelude.{ℕ, ◌%◌, ◌==◌, ◌&&◌, Bool, true, false, not, if◌then◌else◌}
use Rattle.guest_elf.specs.declared.profile.Isa.{Isa}
use Rattle.guest_elf.specs.declared.profile.Profile.{Profile}
use Rattle.guest_elf.specs.declared.profile.StreamLimits.{StreamLimits}
use Rattle.memory_map.specs.Usual.{usual as usual_regions}

-- where nothing is said of it
abbrev pub usual_limits : StreamLimits
usual_limits = record { most_moved = 4096; most_output = 65536 }

-- RV32I with M, and nothing besides
abbrev pub rv32im : Isa
rv32im = record { compressed = false; atomics = false; controls = false }

-- the same with C, and with A too, each with control registers
abbrev pub rv32imc : Isa
rv32imc = record { compressed = true; atomics = false; controls = true }

abbrev pub rv32imac : Isa
rv32imac = record { compressed = true; atomics = true; controls = true }

abbrev pub usual : Profile
usual = record { isa = rv32im; regions = usual_regions; limits = usual_limits }

-- IALIGN in bytes: each instruction begins at a multiple of it (sections 1.5 and 16.1)
unfoldable pub unit : Isa → ℕ
unit isa = if isa.compressed then 2 else 4

-- are there instructions of 16 bits? (chapter 16)
unfoldable pub has_halves : Isa → Bool
has_halves isa = isa.compressed

-- are there atomic instructions? (chapter 8)
unfoldable pub has_atomics : Isa → Bool
has_atomics isa = isa.atomics

-- are there control registers, and FENCE.I and WFI? (chapters 9 and 3; Privileged Architecture 20190608, section 3.2.3)
unfoldable pub has_controls : Isa → Bool
has_controls isa = isa.controls

-- do these bits begin an instruction of 16, where there are such? They do if the two lowest aren't both set
-- (section 1.5, figure 1.1)
abbrev pub is_short : ℕ → Bool
is_short first = not (first % 4 == 3)

-- has an instruction 16 bits?
unfoldable pub is_half : Isa → ℕ → Bool
is_half isa first = isa.compressed && is_short first

-- may an instruction begin at an address?
abbrev pub is_aligned : Isa → ℕ → Bool
is_aligned isa a = a % unit isa == 0

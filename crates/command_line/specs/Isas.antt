-- The names of instruction sets, in small letters (RISC-V Unprivileged ISA 20191213, chapter 27).
use Rattle.std.specs.Prelude.{ℕ, List, Option, Some, None, codes, if◌then◌else◌}
use Rattle.std.specs.Str.{bytes_eq}
use Rattle.guest_elf.specs.declared.profile.Isa.{Isa}
use Rattle.guest_elf.specs.Profiles.{rv32im, rv32imac, rv32imc}

-- the name of an instruction set: RV32I with M, with C too, or with A too. The last two have control registers as well
abbrev pub isa_name : Isa → List ℕ
isa_name isa =
    if isa.atomics then codes "rv32imac"
    else if isa.compressed then codes "rv32imc"
    else codes "rv32im"

-- the instruction set of a name, if it is one
abbrev pub isa_named : List ℕ → Option Isa
isa_named name =
    if bytes_eq name (codes "rv32im") then Some rv32im
    else if bytes_eq name (codes "rv32imc") then Some rv32imc
    else if bytes_eq name (codes "rv32imac") then Some rv32imac
    else None

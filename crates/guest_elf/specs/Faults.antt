-- The numbers of the faults.
use Rattle.std.specs.Prelude.{ℕ}
use Rattle.guest_elf.specs.declared.fault.ElfFault.{ElfFault}
use Rattle.guest_elf.specs.declared.fault.ElfFault.TheVariants.{Memory, NotElf, NotClass32, NotLittleEndian, BadVersion}
use Rattle.guest_elf.specs.declared.fault.ElfFault.TheVariants.{NotExecutable, NotRiscV, BadTable, Interpreter}
use Rattle.guest_elf.specs.declared.fault.ElfFault.TheVariants.{BadSegment, Overlap, TooLarge, BadSymbols}

-- the number of a fault
abbrev pub number_of : ElfFault → ℕ
number_of Memory = 1
number_of NotElf = 20
number_of NotClass32 = 21
number_of NotLittleEndian = 22
number_of BadVersion = 23
number_of NotExecutable = 24
number_of NotRiscV = 25
number_of BadTable = 26
number_of Interpreter = 27
number_of BadSegment = 28
number_of Overlap = 29
number_of TooLarge = 30
number_of BadSymbols = 31

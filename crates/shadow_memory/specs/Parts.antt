-- The two bits of a byte of a page: four numbers below four in a byte, and the meaning of each number.
use Rattle.std.specs.Prelude.{ℕ, true, ◌/◌, ◌%◌, ◌==◌, if◌then◌else◌}
use Rattle.shadow_memory.specs.Marks.{mark_of}
use Rattle.shadow_memory.specs.declared.cells.ByteShadow.{ByteShadow}
use Rattle.shadow_memory.specs.declared.cells.RangeKind.{RangeKind}
use Rattle.shadow_memory.specs.declared.cells.RangeKind.TheVariants.{NoAccess, Undefined, Defined}

-- the numbers in a byte, the first in its low bits
abbrev pub part_of : ℕ → ℕ → ℕ
part_of byte place =
    if place == 0 then byte % 4 else if place == 1 then byte / 4 % 4 else if place == 2 then byte / 16 % 4
    else byte / 64

-- the number of a kind; the fourth one is that of a partly defined byte
abbrev pub code_of : RangeKind → ℕ
code_of NoAccess = 0
code_of Undefined = 1
code_of Defined = 2

-- the number of a byte as it is loaded, if it isn't partly defined: an inaccessible one is loaded as defined
abbrev pub loaded_code : ℕ → ℕ
loaded_code code = if code == 1 then 1 else 2

-- the number of a byte that takes over another's: an inaccessible one stays inaccessible
abbrev pub taken_code : ℕ → ℕ → ℕ
taken_code made old = if old == 0 then 0 else made

-- the mark of a number, if a partly defined byte has these undefined bits
abbrev pub mark_by : ℕ → ℕ → ByteShadow
mark_by code partly =
    if code == 0 then mark_of NoAccess else if code == 1 then mark_of Undefined else if code == 2 then mark_of Defined
    else record { accessible = true; undef = partly }

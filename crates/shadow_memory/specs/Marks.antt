-- What a page keeps of each byte besides its value.
use Rattle.std.specs.Prelude.{ℕ, IsTrue, true, not, ◌≡◌, if◌then◌else◌}
use Rattle.shadow_memory.specs.Shadows.{Shadow, loaded_undef, shadow_of}
use Rattle.shadow_memory.specs.declared.cells.Cell.{Cell}
use Rattle.shadow_memory.specs.declared.cells.ByteShadow.{ByteShadow}
use Rattle.shadow_memory.specs.declared.cells.RangeKind.{RangeKind}
use Rattle.shadow_memory.specs.declared.cells.RangeKind.TheVariants.{Defined}

-- the shadow of a mark
abbrev pub shadow_of_mark : ByteShadow → Shadow
shadow_of_mark mark = record { accessible = mark.accessible; undef = mark.undef }

-- the mark of a byte of a kind
abbrev pub mark_of : RangeKind → ByteShadow
mark_of kind = record { accessible = (shadow_of kind).accessible; undef = (shadow_of kind).undef }

-- the mark of a byte that is stored with all bits defined: an inaccessible one stays inaccessible
abbrev pub defined : ByteShadow → ByteShadow
defined mark = if mark.accessible then mark_of Defined else mark

-- the mark of a byte that gets the undefined bits with which another is loaded: an inaccessible one stays inaccessible
abbrev pub taken : ByteShadow → ByteShadow → ByteShadow
taken source mark =
    if mark.accessible then record { accessible = true; undef = loaded_undef (shadow_of_mark source) } else mark

-- a cell of a byte and a mark
abbrev pub marked : ℕ → ByteShadow → Cell
marked byte mark = record { byte = byte; accessible = mark.accessible; undef = mark.undef }

-- byte 0, of a kind
abbrev pub blank : RangeKind → Cell
blank kind = marked 0 (mark_of kind)

abbrev pub IsCleanMark : ByteShadow → Type 0
IsCleanMark mark = IsTrue (not mark.accessible) → mark.undef ≡ 0

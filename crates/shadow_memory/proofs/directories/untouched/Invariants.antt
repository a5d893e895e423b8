use Rattle.std.proofs.Common.{◌≡◌, replicate}
use Rattle.shadow_memory.specs.declared.cells.RangeKind.TheVariants.{NoAccess}
use Rattle.shadow_memory.specs.declared.slots.PageSlot.TheVariants.{Blank}
use Rattle.shadow_memory.proofs.directories.untouched.Given as goal

abbrev pub invariant-loop-i : goal.invariant-loop-i
invariant-loop-i l = l.pages.items ≡ replicate l._i (Blank NoAccess)

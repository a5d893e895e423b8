-- Atomic memory operations (RISC-V Unprivileged ISA 20191213, section 8.4): what each of them stores.
use Rattle.std.specs.Prelude.{Bool, if◌then◌else◌}
use Rattle.definedness.specs.declared.Bits.{Bits}
use Rattle.definedness.specs.Operations.{less_signed, less_unsigned}
use Rattle.definedness.specs.Undefined.{undef_wide}
use Rattle.instructions.specs.Alu.{computed}
use Rattle.instructions.specs.declared.atomic.Update.{Update}
use Rattle.instructions.specs.declared.atomic.Update.TheVariants.{Swap, Add, Xor, And, Or}
use Rattle.instructions.specs.declared.atomic.Update.TheVariants.{Min, Max, MinUnsigned, MaxUnsigned}
use Rattle.instructions.specs.declared.instruction.Operation.TheVariants as operations

-- one of two words; which one is decided by all bits of both, so that none is defined if one of these isn't (Memcheck
-- treats other operations on all bits so, memcheck/mc_translate.c, mkLazy2)
abbrev pub chosen : Bool → Bits → Bits → Bits
chosen first x y = record { value = if first then x.value else y.value; undef = undef_wide x y }

-- what an operation stores, of the word in memory and that in rs2 (section 8.4)
unfoldable pub updated : Update → Bits → Bits → Bits
updated Swap held given = given
updated Add held given = computed operations.Add held given
updated Xor held given = computed operations.Xor held given
updated And held given = computed operations.And held given
updated Or held given = computed operations.Or held given
updated Min held given = chosen (less_signed held.value given.value) held given
updated Max held given = chosen (less_signed held.value given.value) given held
updated MinUnsigned held given = chosen (less_unsigned held.value given.value) held given
updated MaxUnsigned held given = chosen (less_unsigned held.value given.value) given held

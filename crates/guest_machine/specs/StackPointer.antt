-- The stack pointer rule: bytes that the stack pointer passes become part of the stack, or leave it (Valgrind user
-- manual, section 4.5.2; `--main-stacksize` and `--max-stackframe` of section 2.6 distinguish a new stack frame from a
-- switch of stacks).
use Rattle.std.specs.Prelude.{ℕ, ◌-◌, ◌==◌, ◌&&◌, Bool, nat_le, nat_lt, if◌then◌else◌}
use Rattle.definedness.specs.declared.Bits.{Bits}
use Rattle.shadow_memory.specs.Shadows.{made_so}
use Rattle.shadow_memory.specs.declared.cells.RangeKind.{RangeKind}
use Rattle.shadow_memory.specs.declared.cells.RangeKind.TheVariants.{NoAccess, Undefined}
use Rattle.memory_map.specs.declared.regions.StackRegion.{StackRegion}
use Rattle.guest_machine.specs.State.{Core}
use Rattle.guest_machine.specs.Registers.{register}

-- does a stack pointer lie in the stack region? Both of its ends count.
abbrev pub is_in_stack : StackRegion → ℕ → Bool
is_in_stack stack a = nat_le stack.begin a && nat_le a stack.end

-- a defined stack pointer in the region
abbrev pub is_stack_pointer : StackRegion → Bits → Bool
is_stack_pointer stack bits = (bits.undef == 0) && is_in_stack stack bits.value

-- the greatest number of bytes of a frame: Memcheck's default for `--max-stackframe`
abbrev pub largest_frame : ℕ
largest_frame = 2000000

-- a range given a kind
abbrev pub ranged : Core → ℕ → ℕ → RangeKind → Core
ranged core start n kind = record core { shadow = made_so core.shadow start n kind }

-- the bytes from one address up to, but not including, a higher one given a kind, if they are no more than a frame may
-- have
unfoldable pub framed : Core → ℕ → ℕ → RangeKind → Core
framed core low high kind = if nat_le (high - low) largest_frame then ranged core low (high - low) kind else core

-- the stack pointer moved: where it fell, the bytes are of the stack and undefined; where it rose, they are
-- inaccessible
unfoldable pub stack_moved : Core → ℕ → ℕ → Core
stack_moved core old new =
    if nat_lt new old then framed core new old Undefined
    else if nat_lt old new then framed core old new NoAccess
    else core

-- after an instruction before which x2 had this value
unfoldable pub stack_ruled : Bits → Core → Core
stack_ruled old core =
    let new = register core 2 in
    if is_stack_pointer core.stack old && is_stack_pointer core.stack new then stack_moved core old.value new.value
    else core

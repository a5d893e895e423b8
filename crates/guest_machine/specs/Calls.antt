-- The calls that a program makes of its environment by ECALL (RISC-V Unprivileged ISA 20191213, section 2.8), numbered
-- as in Linux for RISC-V, and from 2001 on the heap's. The number is in a7 (x17), the arguments are in a0 (x10) and on,
-- and the result goes to a0.
use Rattle.std.specs.Prelude.{ℕ, ◌+◌, ◌-◌, ◌^◌, ◌%◌, ◌==◌, ◌||◌, ◌&&◌, not, Bool, true, false, nat_le, min, max}
use Rattle.std.specs.Prelude.{if◌then◌else◌, unwrap_or}
use Rattle.std.specs.Prelude.{List, [], ◌∷◌, ◌++◌, map, slice_index}
use Rattle.std.specs.List.{range_with_len}
use Rattle.shadow_memory.specs.Ranges.{above, first_from}
use Rattle.shadow_memory.specs.Shadows.{Shadow}
use Rattle.error_events.specs.declared.event.Event.{Event}
use Rattle.error_events.specs.declared.parameter.Parameter.{Parameter}
use Rattle.error_events.specs.declared.parameter.Parameter.TheVariants.{SyscallNumber, ReadFd, ReadBuffer, ReadCount}
use Rattle.error_events.specs.declared.parameter.Parameter.TheVariants.{WriteFd, WriteBuffer, WriteCount, ExitStatus}
use Rattle.error_events.specs.declared.parameter.Parameter.TheVariants.{ExitGroupStatus, MallocSize, FreePointer}
use Rattle.error_events.specs.declared.parameter.Parameter.TheVariants.{CallocMembers, CallocSize, ReallocPointer}
use Rattle.error_events.specs.declared.parameter.Parameter.TheVariants.{ReallocSize}
use Rattle.guest_machine.specs.State.{Core}
use Rattle.guest_machine.specs.Registers.{known, register, set_register, tested}
use Rattle.guest_machine.specs.Errors.{parameter_errors, buffer_errors}
use Rattle.guest_machine.specs.Effects.{Effect, no_bytes, raising, moved_to, exited, stored_core}
use Rattle.guest_elf.specs.declared.hook.Hook.{Hook}
use Rattle.guest_elf.specs.declared.hook.Hook.TheVariants.{Malloc, Free, Calloc, Realloc}
use Rattle.guest_machine.specs.declared.environment_call.EnvironmentCall.{EnvironmentCall}
use Rattle.guest_machine.specs.declared.environment_call.EnvironmentCall.TheVariants.{Read, Write, Exit, ExitGroup}
use Rattle.guest_machine.specs.declared.environment_call.EnvironmentCall.TheVariants.{Heap, Unknown}

-- which call --

abbrev pub call_of : ℕ → EnvironmentCall
call_of n =
    if n == 63 then Read
    else if n == 64 then Write
    else if n == 93 then Exit
    else if n == 94 then ExitGroup
    else if n == 2001 then Heap Malloc
    else if n == 2002 then Heap Free
    else if n == 2003 then Heap Calloc
    else if n == 2004 then Heap Realloc
    else Unknown

-- the value of a register that a call reads
abbrev pub argument : Core → ℕ → ℕ
argument core r = (register core r).value

-- the call that the registers ask for
unfoldable pub call_at : Core → EnvironmentCall
call_at core = call_of (argument core 17)

-- does a call use the heap?
abbrev pub is_heap : EnvironmentCall → Bool
is_heap (Heap function) = true
is_heap _ = false

-- tests --

-- the names of a heap call's parameters, which are in a0 and on
unfoldable pub heap_parameters : Hook → List Parameter
heap_parameters Malloc = MallocSize ∷ []
heap_parameters Free = FreePointer ∷ []
heap_parameters Calloc = CallocMembers ∷ CallocSize ∷ []
heap_parameters Realloc = ReallocPointer ∷ ReallocSize ∷ []

-- and those of any call
unfoldable pub parameters_of : EnvironmentCall → List Parameter
parameters_of Read = ReadFd ∷ ReadBuffer ∷ ReadCount ∷ []
parameters_of Write = WriteFd ∷ WriteBuffer ∷ WriteCount ∷ []
parameters_of Exit = ExitStatus ∷ []
parameters_of ExitGroup = ExitGroupStatus ∷ []
parameters_of (Heap function) = heap_parameters function
parameters_of Unknown = []

-- after the tests of registers from one on
unfoldable pub tested_from : Core → ℕ → List Parameter → Core
tested_from core r [] = core
tested_from core r (parameter ∷ parameters) = tested_from (tested core r) (r + 1) parameters

-- and their errors, each at the register that the tests before have left
unfoldable pub errors_from : Core → ℕ → List Parameter → List Event
errors_from core r [] = []
errors_from core r (parameter ∷ parameters) =
    parameter_errors core r parameter ++ errors_from (tested core r) (r + 1) parameters

-- the number is tested first, and then the parameters in order
abbrev pub call_tested : Core → EnvironmentCall → Core
call_tested core call = tested_from (tested core 17) 10 (parameters_of call)

abbrev pub call_errors : Core → EnvironmentCall → List Event
call_errors core call = parameter_errors core 17 SyscallNumber ++ errors_from (tested core 17) 10 (parameters_of call)

-- answers --

abbrev pub answered : Core → ℕ → Core
answered core n = set_register core 10 (known n)

-- the result of a call that fails with an error number, as in Linux: the number negated, modulo 2^32
abbrev pub failure : ℕ → ℕ
failure errno = 2 ^ 32 - errno

-- errno(3): a bad descriptor, no space left, no such call
abbrev pub ebadf : ℕ
ebadf = 9

abbrev pub enospc : ℕ
enospc = 28

abbrev pub enosys : ℕ
enosys = 38

-- a call that only returns a result, and goes on at the address after it
abbrev pub answers : Core → ℕ → EnvironmentCall → ℕ → Effect
answers core next call n = raising (moved_to (answered (call_tested core call) n) next) (call_errors core call)

-- read and write: the descriptor is in a0, the buffer in a1, the count in a2 --

-- how many of n bytes from an address on come before the first that may not be accessed
unfoldable pub accessible_len : (ℕ → Shadow) → ℕ → ℕ → ℕ
accessible_len shadow start n = unwrap_or (first_from (λ i. not (shadow (above start i)).accessible) 0 n) n

-- so many bytes are moved even if they may not be accessed
abbrev pub always_moved : ℕ
always_moved = 4096

-- of n bytes from an address on these are moved: those beyond the first 4,096 only up to the first that may not be
-- accessed (a write(2) that faults later returns what it has written)
abbrev pub moved_from_start : (ℕ → Shadow) → ℕ → ℕ → ℕ
moved_from_start shadow start n =
    if nat_le n always_moved then n else max always_moved (accessible_len shadow start n)

-- the bytes that one call moves: those that it asks for, up to the limit
unfoldable pub moved_len : Core → ℕ
moved_len core =
    moved_from_start core.shadow (argument core 11) (min (argument core 12) core.limits.most_moved)

-- the buffer is tested for as many bytes as the call may move, and the n bytes that are given of the input are stored
-- even so, with no undefined bits. Descriptor 0 is the input
unfoldable pub read_call : Core → ℕ → ℕ → List ℕ → Effect
read_call core next n given =
    if argument core 10 == 0
    then
    (let now = call_tested core Read in
    record {
      core = moved_to (answered (stored_core now (argument core 11) n 0) n) next;
      raised = call_errors core Read ++ buffer_errors now ReadBuffer false (argument core 11) (moved_len core);
      made = slice_index given;
      output = [];
    })
    else answers core next Read (failure ebadf)

-- descriptors 1 and 2 are the output
abbrev pub is_output : ℕ → Bool
is_output descriptor = (descriptor == 1) || (descriptor == 2)

-- is there room for the bytes of a write, after this number of bytes so far?
abbrev pub has_room : Core → ℕ → Bool
has_room core written = nat_le (written + moved_len core) core.limits.most_output

-- does write append its bytes?
unfoldable pub appends : Core → ℕ → Bool
appends core written = is_output (argument core 10) && has_room core written

-- the bytes at the first n offsets
abbrev pub bytes_taken : (ℕ → ℕ) → ℕ → List ℕ
bytes_taken taken n = map taken (range_with_len 0 n)

-- the buffer is tested, and its bytes are appended even so
unfoldable pub write_call : Core → ℕ → ℕ → (ℕ → ℕ) → Effect
write_call core next written taken =
    if is_output (argument core 10)
    then
    (if has_room core written
    then
    (let now = call_tested core Write in
    let n = moved_len core in
    record {
      core = moved_to (answered now n) next;
      raised = call_errors core Write ++ buffer_errors now WriteBuffer true (argument core 11) n;
      made = no_bytes;
      output = bytes_taken taken n;
    })
    else answers core next Write (failure enospc))
    else answers core next Write (failure ebadf)

-- the program ends with the low 8 bits of a0
abbrev pub exit_call : Core → EnvironmentCall → Effect
exit_call core call = raising (exited (call_tested core call) (argument core 10 % 256)) (call_errors core call)

-- no such call
abbrev pub unknown_call : Core → ℕ → Effect
unknown_call core next = answers core next Unknown (failure enosys)

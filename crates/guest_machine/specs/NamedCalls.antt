-- The calls of the heap by name: a step at the first address of a function that is called malloc, free, calloc or
-- realloc does what the heap call does, in place of the function, and returns to the function's caller (Valgrind
-- replaces these functions by name too: Memcheck manual, section 4.1). Arguments and result are in a0 and a1, and the
-- return address is in ra, x1 (RISC-V ELF psABI specification, "Integer Calling Convention").
use Rattle.std.specs.Prelude.{ℕ, ◌*◌, ◌/◌, Bool, true, false, List, ◌++◌}
use Rattle.call_stacks.specs.Frames.{returned}
use Rattle.error_events.specs.declared.event.Event.{Event}
use Rattle.guest_elf.specs.Profiles.{is_aligned}
use Rattle.guest_elf.specs.declared.hook.Hook.{Hook}
use Rattle.guest_machine.specs.State.{Core}
use Rattle.guest_machine.specs.Registers.{tested}
use Rattle.guest_machine.specs.Errors.{value_errors}
use Rattle.guest_machine.specs.Effects.{Effect, raising, moved_to, stopped}
use Rattle.guest_machine.specs.Calls.{argument, heap_parameters, tested_from, errors_from}
use Rattle.guest_machine.specs.HeapCalls.{heap_work, between}
use Rattle.run_values.specs.declared.status.Stop.TheVariants.{Misaligned}

-- the return address: x1 with its lowest bit cleared, as JALR clears it
abbrev pub return_address : Core → ℕ
return_address core = argument core 1 / 2 * 2

-- can it return there? Only then does it do its work
abbrev pub returns : Core → Bool
returns core = is_aligned core.isa (return_address core)

-- x1 is tested first, and then the parameters in order
abbrev pub named_tested : Core → Hook → Core
named_tested core function = tested_from (tested core 1) 10 (heap_parameters function)

abbrev pub named_errors : Core → Hook → List Event
named_errors core function = value_errors core 1 ++ errors_from (tested core 1) 10 (heap_parameters function)

-- a return to an address: pc goes there, and the newest call with that return address ends, with all newer ones
abbrev pub returned_to : ℕ → Core → Core
returned_to to core = moved_to (record core { frames = returned to core.frames }) to

-- by whether it returns: an address at which no instruction may begin stops the machine, after the test of x1
unfoldable pub named_by : Bool → Hook → Core → ℕ → ℕ → (ℕ → ℕ) → Effect
named_by true function core redzone volume taken =
    between
    (named_errors core function)
    (heap_work function (named_tested core function) (argument core 10) (argument core 11) redzone volume taken)
    (returned_to (return_address core))
named_by false function core redzone volume taken = raising (stopped (tested core 1) Misaligned) (value_errors core 1)

abbrev pub named_call : Hook → Core → ℕ → ℕ → (ℕ → ℕ) → Effect
named_call function core redzone volume taken = named_by (returns core) function core redzone volume taken

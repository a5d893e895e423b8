-- The calls of the heap: malloc, free, calloc and realloc as the C standard (ISO/IEC 9899, 7.22.3) defines them, over
-- blocks that are kept as Memcheck's replacement of malloc keeps them (Memcheck manual, section 4.1): redzones round
-- each, freed ones in a queue. A program asks for them by number or by name; what they do is the same.
use Rattle.std.specs.Prelude.{ℕ, ◌+◌, ◌-◌, ◌*◌, ◌==◌, min, max, if◌then◌else◌, List, [], ◌++◌, Option, Some, None, Bool}
use Rattle.std.specs.Prelude.{true, false}
use Rattle.shadow_memory.specs.Shadows.{copied_undef}
use Rattle.shadow_memory.specs.declared.cells.RangeKind.{RangeKind}
use Rattle.shadow_memory.specs.declared.cells.RangeKind.TheVariants.{NoAccess, Undefined, Defined}
use Rattle.call_stacks.specs.declared.block.Block.{Block}
use Rattle.error_events.specs.declared.event.Event.{Event}
use Rattle.error_events.specs.declared.kind.Kind.TheVariants.{Free as FreeError}
use Rattle.guest_heap.specs.Blocks.{Blocks, IsKept, Meets, allocated, released_at}
use Rattle.guest_heap.specs.Steps.{place, after_release}
use Rattle.guest_heap.specs.declared.released.Released.{Released}
use Rattle.guest_heap.specs.declared.released.Released.TheVariants.{Done, Nothing, Invalid}
use Rattle.guest_machine.specs.State.{Core}
use Rattle.guest_machine.specs.Errors.{here, event_about}
use Rattle.guest_machine.specs.Effects.{Effect, quiet, raising, moved_to}
use Rattle.guest_machine.specs.StackPointer.{ranged}
use Rattle.guest_machine.specs.Calls.{argument, answered, call_tested, call_errors}
use Rattle.guest_elf.specs.declared.hook.Hook.{Hook}
use Rattle.guest_elf.specs.declared.hook.Hook.TheVariants.{Malloc, Free, Calloc, Realloc}
use Rattle.guest_machine.specs.declared.environment_call.EnvironmentCall.TheVariants.{Heap}

-- allocating --

-- another block at a place, if there is one, allocated here
abbrev pub placed : Core → Option ℕ → ℕ → ℕ → Core
placed core found size redzone = record core { blocks = allocated core.blocks found size (here core) redzone }

-- a new block's interval meets no kept block's
abbrev pub IsClearOf : Blocks → ℕ → ℕ → ℕ → Type 0
IsClearOf blocks size redzone p = (b : Block) → IsKept blocks b → ¬ (Meets (p - redzone) (p + max size 1 + redzone) b)

-- the interval of a block made inaccessible, and then its bytes given a kind
abbrev pub closed : Core → ℕ → ℕ → ℕ → Core
closed core p size redzone = ranged core (p - redzone) (redzone + max size 1 + redzone) NoAccess

abbrev pub carved : Core → ℕ → ℕ → ℕ → RangeKind → Core
carved core p size redzone kind = ranged (closed core p size redzone) p size kind

-- a block at a place, if there is one; its address is the result, or 0
unfoldable pub block_at : Core → Option ℕ → ℕ → ℕ → RangeKind → Core
block_at core None size redzone kind = answered core 0
block_at core (Some p) size redzone kind = answered (carved (placed core (Some p) size redzone) p size redzone kind) p

-- a block of a size, at the least place of all
abbrev pub given_block : Core → ℕ → ℕ → RangeKind → Core
given_block core size redzone kind = block_at core (place core.blocks size redzone) size redzone kind

-- freeing --

-- a block that was live is inaccessible, and goes to the queue; otherwise nothing changes
unfoldable pub freed : Core → Released → ℕ → Core
freed core (Done b) volume =
    record (ranged core b.start b.size NoAccess) { blocks = after_release (Done b) volume core.blocks }
freed core Nothing volume = core
freed core Invalid volume = core

-- what is freed at an address here
abbrev pub released_here : Core → ℕ → Released
released_here core p = released_at core.blocks p (here core)

-- the error of an address at which no live block begins (Memcheck manual, section 4.2.4)
abbrev pub is_invalid : Released → Bool
is_invalid (Done b) = false
is_invalid Nothing = false
is_invalid Invalid = true

unfoldable pub free_errors : Core → Released → ℕ → List Event
free_errors core (Done b) p = []
free_errors core Nothing p = []
free_errors core Invalid p = event_about core.stack core.blocks (here core) FreeError (Some p)

-- resizing --

-- the outcome of realloc: an allocation; an error; a release; nothing, if there is no place; or a move of a block to a
-- place
pub data Resizing : Type 0 where
  Allocates : Resizing
  Refuses : Resizing
  Frees : Resizing
  Keeps : Resizing
  Moves : Block → ℕ → Resizing

abbrev pub moving : Block → Option ℕ → Resizing
moving b None = Keeps
moving b (Some q) = Moves b q

-- to the least place of all
abbrev pub moving_in : Blocks → Block → ℕ → ℕ → Resizing
moving_in blocks b size redzone = moving b (place blocks size redzone)

abbrev pub resizing_block : Blocks → Option Block → ℕ → ℕ → Resizing
resizing_block blocks None size redzone = Refuses
resizing_block blocks (Some b) size redzone = if size == 0 then Frees else moving_in blocks b size redzone

-- of the block at an address, to a size
unfoldable pub resizing : Blocks → ℕ → ℕ → ℕ → Resizing
resizing blocks p size redzone = if p == 0 then Allocates else resizing_block blocks (blocks.live p) size redzone

-- the number of bytes that are moved
abbrev pub moved_size : Block → ℕ → ℕ
moved_size b size = min b.size size

-- the undefined bits of the bytes are moved too
abbrev pub copied : Core → ℕ → ℕ → ℕ → Core
copied core from to n = record core { shadow = copied_undef core.shadow from to n }

-- the new block is allocated, the bytes are copied, and then the old block is freed
abbrev pub moved_block : Core → ℕ → Block → ℕ → ℕ → ℕ → ℕ → Core
moved_block core p b q size redzone volume =
    let both = carved (placed core (Some q) size redzone) q size redzone Undefined in
    let full = copied both p q (moved_size b size) in
    freed full (released_here full p) volume

unfoldable pub resized : Core → ℕ → ℕ → ℕ → ℕ → Resizing → Core
resized core p size redzone volume Allocates = given_block core size redzone Undefined
resized core p size redzone volume Refuses = answered core 0
resized core p size redzone volume Frees = answered (freed core (released_here core p) volume) 0
resized core p size redzone volume Keeps = answered core 0
resized core p size redzone volume (Moves b q) = answered (moved_block core p b q size redzone volume) q

unfoldable pub resize_errors : Core → ℕ → Resizing → List Event
resize_errors core p Refuses = event_about core.stack core.blocks (here core) FreeError (Some p)
resize_errors core p _ = []

-- what the calls do --

-- at the core after the tests, with the values of a0 and a1: the result is in a0, and pc stays. The bytes of malloc are
-- undefined. calloc takes the product of its two numbers as a whole number, and its bytes are zeros, and defined
unfoldable pub heap_work : Hook → Core → ℕ → ℕ → ℕ → ℕ → (ℕ → ℕ) → Effect
heap_work Malloc core x y redzone volume taken = quiet (given_block core x redzone Undefined)
heap_work Free core x y redzone volume taken =
    let released = released_here core x in
    raising (answered (freed core released volume) 0) (free_errors core released x)
heap_work Calloc core x y redzone volume taken = quiet (given_block core (x * y) redzone Defined)
heap_work Realloc core x y redzone volume taken =
    let what = resizing core.blocks x y redzone in
    record {
      core = resized core x y redzone volume what;
      raised = resize_errors core x what;
      made = taken;
      output = [];
    }

-- an effect after the errors of tests, and before a last change of the core
abbrev pub between : List Event → Effect → (Core → Core) → Effect
between errors effect last = record {
  core = last effect.core;
  raised = errors ++ effect.raised;
  made = effect.made;
  output = effect.output;
}

-- a call by number, at ECALL: the number is tested, and then the parameters; it goes on at the address after it
abbrev pub heap_call : Hook → Core → ℕ → ℕ → ℕ → (ℕ → ℕ) → Effect
heap_call function core next redzone volume taken =
    let now = call_tested core (Heap function) in
    between
    (call_errors core (Heap function))
    (heap_work function now (argument core 10) (argument core 11) redzone volume taken)
    (λ after. moved_to after next)

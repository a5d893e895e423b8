-- Atomic instructions (RISC-V Unprivileged ISA 20191213, chapter 8), with undefined bits and errors as Memcheck has
-- those of a load and of a store (memcheck/mc_translate.c: "treat a load-linked like a normal load", "a
-- store-conditional like a normal store").
use Rattle.std.specs.Prelude.{ℕ, ◌%◌, ◌==◌, ◌&&◌, [], ◌++◌, Bool, true, false, if◌then◌else◌, Option, Some, None}
use Rattle.definedness.specs.declared.Bits.{Bits}
use Rattle.instructions.specs.Atomics.{updated}
use Rattle.instructions.specs.declared.atomic.Atomic.{Atomic}
use Rattle.instructions.specs.declared.atomic.Atomic.TheVariants.{LoadReserved, StoreConditional}
use Rattle.instructions.specs.declared.atomic.Atomic.TheVariants.{Update as Updating}
use Rattle.instructions.specs.declared.atomic.Update.{Update}
use Rattle.instructions.specs.declared.width.Width.TheVariants.{Word}
use Rattle.guest_elf.specs.Profiles.{has_atomics}
use Rattle.shadow_memory.specs.Ranges.{byte_of, little_word}
use Rattle.run_values.specs.declared.span.Span.{Span}
use Rattle.run_values.specs.declared.status.Stop.TheVariants.{Illegal, Misaligned}
use Rattle.error_events.specs.declared.kind.Kind.TheVariants.{Read, Write}
use Rattle.guest_machine.specs.State.{Core}
use Rattle.guest_machine.specs.Registers.{known, register, set_register, tested}
use Rattle.guest_machine.specs.Effects.{Effect, load, moved_to, raising, store, stopped, stored_core, stops, target}
use Rattle.guest_machine.specs.Errors.{access_errors, taken_undef, value_errors}
use Rattle.guest_machine.specs.Spans.{span_at}

-- the address is that in rs1, as that of a load or a store without an offset
abbrev pub atomic_start : Core → ℕ → ℕ
atomic_start core rs1 = target core rs1 0

abbrev pub atomic_span : Core → ℕ → Span
atomic_span core rs1 = span_at (atomic_start core rs1) 4

-- does the word at the address get accessed? The machine must have these instructions, and the address be a multiple of
-- 4 (section 8.2)
unfoldable pub admits : Core → ℕ → Bool
admits core rs1 = has_atomics core.isa && (atomic_start core rs1 % 4 == 0)

-- if not: without these instructions the word is none of the machine's; an address is tested before it is looked at
abbrev pub not_admitted : Core → ℕ → Effect
not_admitted core rs1 =
    if has_atomics core.isa then raising (stopped (tested core rs1) Misaligned) (value_errors core rs1)
    else stops core Illegal

-- an effect that also leaves this reservation, and one that also leaves a number in rd
abbrev pub reserving : Option ℕ → Effect → Effect
reserving at e =
    record { core = record e.core { reserved = at }; raised = e.raised; made = e.made; output = e.output }

abbrev pub resulting : ℕ → ℕ → Effect → Effect
resulting rd n e =
    record { core = set_register e.core rd (known n); raised = e.raised; made = e.made; output = e.output }

-- LR (section 8.2): a load, which reserves its address
abbrev pub load_reserved : Core → ℕ → ℕ → ℕ → (ℕ → ℕ) → Effect
load_reserved core next rd rs1 taken =
    reserving (Some (atomic_start core rs1)) (load core next Word true rd rs1 0 taken)

-- is the address that is reserved the one in rs1?
abbrev pub is_reserved_by : Option ℕ → ℕ → Bool
is_reserved_by None start = false
is_reserved_by (Some reserved) start = reserved == start

unfoldable pub is_reserved : Core → ℕ → Bool
is_reserved core rs1 = is_reserved_by core.reserved (atomic_start core rs1)

-- SC (section 8.2): a store that leaves 0 in rd, if the last LR or SC was an LR of this address; otherwise it stores
-- nothing and leaves 1. Nothing stays reserved. Other stores of the program leave a reservation
abbrev pub not_stored : Core → ℕ → ℕ → Effect
not_stored core next rs1 = raising (moved_to (tested core rs1) next) (value_errors core rs1)

abbrev pub store_conditional : Core → ℕ → ℕ → ℕ → ℕ → Effect
store_conditional core next rd rs1 rs2 =
    reserving None
    (if is_reserved core rs1 then resulting rd 0 (store core next Word rs1 rs2 0)
    else resulting rd 1 (not_stored core next rs1))

-- an AMO (section 8.4): a load of a word, and a store of what becomes of it. rd gets the word that was loaded
abbrev pub held_word : Core → ℕ → (ℕ → ℕ) → Bits
held_word core start taken = record { value = little_word taken; undef = taken_undef core start 4 }

abbrev pub update_word : Core → ℕ → Update → ℕ → ℕ → ℕ → (ℕ → ℕ) → Effect
update_word core next update rd rs1 rs2 taken =
    let now = tested core rs1 in
    let start = atomic_start core rs1 in
    let held = held_word now start taken in
    let new = updated update held (register now rs2) in
    record {
      core = moved_to (set_register (stored_core now start 4 new.undef) rd held) next;
      raised = value_errors core rs1 ++ (access_errors now (Read 4) start 4 ++ access_errors now (Write 4) start 4);
      made = byte_of new.value;
      output = [];
    }

abbrev pub admitted : Core → ℕ → Atomic → ℕ → ℕ → ℕ → (ℕ → ℕ) → Effect
admitted core next LoadReserved rd rs1 rs2 taken = load_reserved core next rd rs1 taken
admitted core next StoreConditional rd rs1 rs2 taken = store_conditional core next rd rs1 rs2
admitted core next (Updating update) rd rs1 rs2 taken = update_word core next update rd rs1 rs2 taken

-- what an atomic instruction leaves, by the address after it and the bytes that it reads
unfoldable pub atomic_effect : Core → ℕ → Atomic → ℕ → ℕ → ℕ → (ℕ → ℕ) → Effect
atomic_effect core next atomic rd rs1 rs2 taken =
    if admits core rs1 then admitted core next atomic rd rs1 rs2 taken else not_admitted core rs1

-- and the ranges that it reads and writes
abbrev pub read_if : Atomic → Span → Option Span
read_if LoadReserved span = Some span
read_if StoreConditional span = None
read_if (Updating update) span = Some span

abbrev pub written_if : Bool → Atomic → Span → Option Span
written_if reserved LoadReserved span = None
written_if reserved StoreConditional span = if reserved then Some span else None
written_if reserved (Updating update) span = Some span

unfoldable pub atomic_reads : Core → Atomic → ℕ → Option Span
atomic_reads core atomic rs1 = if admits core rs1 then read_if atomic (atomic_span core rs1) else None

unfoldable pub atomic_writes : Core → Atomic → ℕ → Option Span
atomic_writes core atomic rs1 =
    if admits core rs1 then written_if (is_reserved core rs1) atomic (atomic_span core rs1) else None

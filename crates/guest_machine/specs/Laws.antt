-- Laws of one step, which follow from its form and not from any instruction.
use Rattle.std.specs.Prelude.{◌≡◌, ℕ, ◌/◌, ◌%◌, ◌<◌, ◌≤◌, true, false, Bool, List, [], ◌∷◌, ◌++◌, length}
use Rattle.std.specs.Prelude.{slice_get, ◌==◌, ◌&&◌, if◌then◌else◌, is_none, None, drop}
use Rattle.guest_elf.specs.Hooks.{hook_at}
use Rattle.guest_elf.specs.declared.hook.Hook.{Hook}
use Rattle.instructions.specs.declared.hint.StackHint.{StackHint}
use Rattle.run_values.specs.declared.alteration.Act.TheVariants.{Skip}
use Rattle.run_values.specs.declared.status.Stop.TheVariants.{Illegal, Misaligned}
use Rattle.guest_machine.specs.State.{Core, State}
use Rattle.guest_machine.specs.Registers.{known, set_register}
use Rattle.guest_machine.specs.Effects.{followed, jumped, linked_jump, moved_to, next_of, quiet, stopped, stops}
use Rattle.guest_machine.specs.NamedCalls.{return_address, returns}
use Rattle.guest_machine.specs.Run as Altered
use Rattle.guest_machine.specs.Run.{poked, marked}
use Rattle.guest_machine.specs.Alterations.{altered, core_by}
use Rattle.guest_machine.specs.MarkedRun as Marked
use Rattle.guest_machine.specs.MarkedRun.{alterations_of}
use Rattle.run_values.specs.Alterations.{alteration_of}
use Rattle.run_values.specs.declared.mark.Mark.{Mark}
use Rattle.guest_machine.specs.Exec.{exec, touches, counted, is_heap_action, is_running, action_at}
use Rattle.guest_machine.specs.Exec.{Takes, Halts, called_here, fetched, fetches, jump_fault, unfetched, word_at}
use Rattle.guest_machine.specs.Exec.{word_fault, Terms, atomic_uses, calls_heap, nothing, row_asks, row_effect}
use Rattle.guest_machine.specs.Exec.{row_uses}
use Rattle.instructions.specs.Instructions.{if_row, row_of}
use Rattle.rv_decode.specs.Table.{insn}
use Rattle.guest_elf.specs.Profiles.{has_atomics, rv32im}
use Rattle.guest_machine.specs.Atomics.{atomic_effect}
use Rattle.instructions.specs.declared.atomic.Atomic.{Atomic}
use Rattle.instructions.specs.Codes.{len_of}
use Rattle.instructions.specs.declared.code.Code.{Code}
use Rattle.instructions.specs.declared.code.Code.TheVariants.{Word}
use Rattle.shadow_memory.specs.Ranges.{is_in}
use Rattle.guest_machine.specs.declared.setup.Setup.{Setup}

-- the addresses of the word at an address
abbrev pub InWord : ℕ → ℕ → Type 0
InWord word a = a / 4 ≡ word / 4

-- the addresses of the bytes of a code at an address
abbrev pub InCode : ℕ → Code → ℕ → Type 0
InCode addr code a = is_in addr (len_of code) a ≡ true

-- two states differ only in byte values, and only at these addresses
pub record DifferWithin (W : ℕ → Type 0) (s t : State) : Type 0 where
  pub bytes : (a : ℕ) → (W a → ⊥) → s.bytes a ≡ t.bytes a
  pub core : s.core ≡ t.core
  pub position : s.position ≡ t.position
  pub end_seen : s.end_seen ≡ t.end_seen
  pub output : s.output ≡ t.output
  pub heap_calls : s.heap_calls ≡ t.heap_calls
  pub events : s.events ≡ t.events

-- a step touches none of these addresses
abbrev pub TouchesNone : (ℕ → Type 0) → State → Setup → Type 0
TouchesNone W s setup = (a : ℕ) → W a → touches s setup a ≡ false

-- a step that doesn't touch a word does the same whatever the word's bytes are, touches the same, and leaves them
abbrev pub KeepsWords : Type 0
KeepsWords =
    (setup : Setup) (word : ℕ) (s t : State) → DifferWithin (InWord word) s t → TouchesNone (InWord word) s setup
    → (touches s setup ≡ touches t setup) × DifferWithin (InWord word) (exec s setup) (exec t setup)

-- two setups have the same input below an offset; one has a byte there, and the other may have any from there on
pub record SharesFront (offset : ℕ) (one other : Setup) : Type 0 where
  pub redzone : one.redzone ≡ other.redzone
  pub volume : one.volume ≡ other.volume
  pub hooks : one.hooks ≡ other.hooks
  pub more : offset < length one.input
  pub enough : offset ≤ length other.input
  pub bytes : (i : ℕ) → i < offset → slice_get one.input i ≡ slice_get other.input i

-- a step that leaves the position at or below an offset doesn't look at the input from there on
abbrev pub KeepsInput : Type 0
KeepsInput =
    (one other : Setup) (offset : ℕ) (s : State) → SharesFront offset one other → (exec s one).position ≤ offset
    → (touches s one ≡ touches s other) × (exec s one ≡ exec s other)

-- two setups differ at most in input below a position, which was read
pub record SharesRest (position : ℕ) (one other : Setup) : Type 0 where
  pub redzone : one.redzone ≡ other.redzone
  pub volume : one.volume ≡ other.volume
  pub hooks : one.hooks ≡ other.hooks
  pub rest : drop position one.input ≡ drop position other.input

-- the addresses that pass a test
abbrev pub Within : (ℕ → Bool) → ℕ → Type 0
Within inside a = inside a ≡ true

-- a step does the same in one state as in another: it touches the same, after it they differ within the same addresses,
-- and there it leaves the other's bytes as they were
pub record StepsAlike (inside : ℕ → Bool) (one other : Setup) (s t : State) : Type 0 where
  pub touches : touches s one ≡ touches t other
  pub differ : DifferWithin (Within inside) (exec s one) (exec t other)
  pub left : (a : ℕ) → Within inside a → (exec t other).bytes a ≡ t.bytes a

-- it does so if it touches none of the addresses within which they differ, also where input that was read differs
abbrev pub KeepsApart : Type 0
KeepsApart =
    (inside : ℕ → Bool) (one other : Setup) (s t : State) → SharesRest s.position one other
    → DifferWithin (Within inside) s t → TouchesNone (Within inside) s one → StepsAlike inside one other s t

-- is the step of a state a heap call?
abbrev pub is_heap_step : State → List (ℕ × Hook) → Bool
is_heap_step s hooks = is_heap_action s.core (action_at s.core s.bytes hooks)

-- a step that is no heap call doesn't look at the redzone or at the volume; and the state counts its heap calls
pub record KeepsHeap : Type 0 where
  pub same : (one other : Setup) (s : State) → one.input ≡ other.input → one.hooks ≡ other.hooks
      → is_heap_step s one.hooks ≡ false
      → (touches s one ≡ touches s other) × (exec s one ≡ exec s other)
  pub counts : (setup : Setup) (s : State)
      → (exec s setup).heap_calls ≡ counted s.heap_calls (is_heap_step s setup.hooks)

-- a code may be poked before a step that touches none of its bytes or after it, and the step touches the same
abbrev pub KeepsPokes : Type 0
KeepsPokes =
    (setup : Setup) (addr : ℕ) (code : Code) (s : State) → TouchesNone (InCode addr code) s setup
    → (touches s setup ≡ touches (poked s addr code) setup)
    × (exec (poked s addr code) setup ≡ poked (exec s setup) addr code)

-- a step gives no input back
abbrev pub ReadsOn : Type 0
ReadsOn = (setup : Setup) (s : State) → s.position ≤ (exec s setup).position

-- the other setup has more bytes of input, at its end
pub record Extends (one other : Setup) : Type 0 where
  pub redzone : one.redzone ≡ other.redzone
  pub volume : one.volume ≡ other.volume
  pub hooks : one.hooks ≡ other.hooks
  pub input : (more : List ℕ) × (other.input ≡ one.input ++ more)

-- a step does the same with more bytes at the end of the input, if it hasn't seen the end without them
abbrev pub KeepsEnd : Type 0
KeepsEnd =
    (one other : Setup) (s : State) → Extends one other → (exec s one).end_seen ≡ false
    → (touches s one ≡ touches s other) × (exec s one ≡ exec s other)

-- the end of the input, once seen, stays seen
abbrev pub EndStays : Type 0
EndStays = (setup : Setup) (s : State) → s.end_seen ≡ true → (exec s setup).end_seen ≡ true

-- a step of a machine that doesn't run leaves the state as it is, and touches nothing
abbrev pub StaysHalted : Type 0
StaysHalted =
    (setup : Setup) (s : State) → is_running s.core.status ≡ false
    → (exec s setup ≡ s) × ((a : ℕ) → touches s setup a ≡ false)

-- a step leaves the instruction set
abbrev pub KeepsIsa : Type 0
KeepsIsa = (setup : Setup) (s : State) → (exec s setup).core.isa ≡ s.core.isa

-- a step leaves the regions where they are
pub record KeepsRegions : Type 0 where
  pub stack : (setup : Setup) (s : State) → (exec s setup).core.stack ≡ s.core.stack
  pub heap : (setup : Setup) (s : State) → (exec s setup).core.blocks.begin ≡ s.core.blocks.begin

-- a step leaves how many bytes calls move
abbrev pub KeepsLimits : Type 0
KeepsLimits = (setup : Setup) (s : State) → (exec s setup).core.limits ≡ s.core.limits

-- a core at which an instruction may begin at each multiple of 4, and nowhere else, and has 4 bytes (RISC-V
-- Unprivileged ISA 20191213, section 1.5)
pub record IsByFours (core : Core) : Type 0 where
  pub jumps : (to : ℕ) → jumped core to ≡ if to % 4 == 0 then moved_to core to else stopped core Misaligned
  pub links : (next : ℕ) (hint : StackHint) (rd to : ℕ) → linked_jump core next hint rd to
      ≡ if to % 4 == 0 then moved_to (set_register (followed core next hint to) rd (known next)) to
      else stopped core Misaligned
  pub returns : returns core ≡ (return_address core % 4 == 0)
  pub calls : (hooks : List (ℕ × Hook)) → called_here core hooks
      ≡ if is_running core.status && core.pc % 4 == 0 then hook_at hooks core.pc else None
  pub fetches : fetches core ≡ (is_running core.status && (core.pc % 4 == 0 && is_none (word_fault core)))
  pub takes : (bytes : ℕ → ℕ) → fetched core bytes
      ≡ if is_running core.status && (core.pc % 4 == 0 && is_none (word_fault core))
      then Takes (Word (word_at core bytes)) else Halts
  pub halts : unfetched core
      ≡ if is_running core.status
      then (if core.pc % 4 == 0 then jump_fault core (word_fault core) else stops core Misaligned)
      else quiet core
  pub skips : (bytes : ℕ → ℕ) → core_by Skip core bytes ≡ moved_to core (next_of core 4)

-- a core whose instruction set is RV32IM is one
abbrev pub GoesByFours : Type 0
GoesByFours = (core : Core) → core.isa ≡ rv32im → IsByFours core

-- a core at which each word is what it is in RV32IM
pub record HasBaseWords (core : Core) : Type 0 where
  pub effects : (next word : ℕ) (terms : Terms) (given : List ℕ) (taken : ℕ → ℕ)
      → row_effect core next (row_of word) terms given taken
      ≡ row_effect core next (if_row (insn word)) terms given taken
  pub uses : (word : ℕ) (terms : Terms) → row_uses core (row_of word) terms ≡ row_uses core (if_row (insn word)) terms
  pub asks : (word : ℕ) → row_asks core (row_of word) ≡ row_asks core (if_row (insn word))
  pub heap : (word : ℕ) → calls_heap core (row_of word) ≡ calls_heap core (if_row (insn word))

-- a core whose instruction set is RV32IM is one
abbrev pub LacksExtensions : Type 0
LacksExtensions = (core : Core) → core.isa ≡ rv32im → HasBaseWords core

-- a core at which an atomic instruction is none
pub record HasNoAtomics (core : Core) : Type 0 where
  pub effects : (next : ℕ) (atomic : Atomic) (rd rs1 rs2 : ℕ) (taken : ℕ → ℕ)
      → atomic_effect core next atomic rd rs1 rs2 taken ≡ stops core Illegal
  pub uses : (atomic : Atomic) (rs1 : ℕ) → atomic_uses core atomic rs1 ≡ nothing

-- a core whose instruction set has no atomic instructions is one
abbrev pub LacksAtomics : Type 0
LacksAtomics = (core : Core) → has_atomics core.isa ≡ false → HasNoAtomics core

-- ---- marks as alterations

-- a mark alters a state as it marks it
abbrev pub AltersAsMarked : Type 0
AltersAsMarked = (s : State) (mark : Mark) → altered s (alteration_of mark) ≡ marked s mark

-- so the run with marks as alterations is the run with marks, before the marks of each step and after them
abbrev pub RunsAsMarked : Type 0
RunsAsMarked =
    (start : State) (setup : Setup) (marks : List Mark) (k : ℕ)
    → (Altered.pre start setup (alterations_of marks) k ≡ Marked.pre start setup marks k)
    × (Altered.post start setup (alterations_of marks) k ≡ Marked.post start setup marks k)

-- No step changes the instruction set; and where an instruction of RV32IM may begin.
use Rattle.std.proofs.Common.{◌≡◌, ℕ, ◌+◌, ◌-◌, ◌*◌, ◌/◌, ◌%◌, ◌^◌, ◌==◌, ◌&&◌, nat_lt, nat_le, Bool, true, false, cond}
use Rattle.std.proofs.Common.{refl, ap, sym, ◌∙◌, List, [], ◌∷◌, Option, Some, None}
use Rattle.error_events.specs.declared.parameter.Parameter.{Parameter}
use Rattle.std.specs.Prelude.{is_none}
use Rattle.guest_elf.specs.Hooks.{hook_at}
use Rattle.guest_elf.specs.Profiles.{has_atomics, has_controls, is_aligned, is_half, rv32im, unit}
use Rattle.shadow_memory.specs.Shadows.{first_inaccessible}
use Rattle.guest_elf.specs.declared.hook.Hook.{Hook}
use Rattle.guest_elf.specs.declared.hook.Hook.TheVariants.{Malloc, Free, Calloc, Realloc}
use Rattle.guest_elf.specs.declared.profile.Isa.{Isa}
use Rattle.guest_elf.specs.declared.profile.StreamLimits.{StreamLimits}
use Rattle.memory_map.specs.declared.regions.StackRegion.{StackRegion}
use Rattle.guest_heap.specs.Steps.{place}
use Rattle.guest_heap.specs.declared.released.Released.{Released}
use Rattle.guest_heap.specs.declared.released.Released.TheVariants.{Done, Nothing, Invalid}
use Rattle.instructions.specs.Alu.{passes}
use Rattle.instructions.specs.CallStack.{jal_hint, jalr_hint}
use Rattle.instructions.specs.Codes.{len_of, row_of_code}
use Rattle.instructions.specs.declared.code.Code.TheVariants.{Word}
use Rattle.instructions.specs.declared.hint.StackHint.{StackHint}
use Rattle.instructions.specs.declared.instruction.Comparison.{Comparison}
use Rattle.instructions.specs.declared.instruction.Instruction.{Instruction}
use Rattle.instructions.specs.declared.instruction.Instruction.TheVariants.{LoadUpper, AddUpper, Jump, JumpRegister}
use Rattle.instructions.specs.declared.instruction.Instruction.TheVariants.{Branch, Load, Store, Immediate, Registers}
use Rattle.instructions.specs.declared.instruction.Instruction.TheVariants.{Fence, CallEnvironment, Breakpoint}
use Rattle.instructions.specs.declared.instruction.Instruction.TheVariants as rows
use Rattle.instructions.specs.declared.atomic.Atomic.{Atomic}
use Rattle.instructions.specs.declared.atomic.Atomic.TheVariants.{LoadReserved, StoreConditional}
use Rattle.instructions.specs.declared.atomic.Atomic.TheVariants.{Update as Updating}
use Rattle.instructions.specs.declared.control.ControlAccess.{ControlAccess}
use Rattle.instructions.specs.declared.control.ControlOperand.{ControlOperand}
use Rattle.definedness.specs.declared.Bits.{Bits}
use Rattle.run_values.specs.declared.status.Stop.TheVariants.{Illegal, Misaligned}
use Rattle.shadow_memory.specs.declared.cells.RangeKind.{RangeKind}
use Rattle.shadow_memory.specs.declared.cells.RangeKind.TheVariants.{NoAccess, Undefined, Defined}
use Rattle.guest_machine.specs.State.{Core, State}
use Rattle.guest_machine.specs.Registers.{defined, known, register, set_register, tested}
use Rattle.guest_machine.specs.StackPointer.{framed, is_stack_pointer, largest_frame, ranged, stack_moved, stack_ruled}
use Rattle.guest_machine.specs.Atomics.{admits, admitted, atomic_effect, is_reserved, not_admitted, not_stored}
use Rattle.guest_machine.specs.Atomics.{resulting}
use Rattle.guest_machine.specs.Controls.{barrier, control, control_effect, controls_after, has_control}
use Rattle.guest_machine.specs.Errors.{value_errors}
use Rattle.guest_machine.specs.Effects.{Effect, branch_tested, branched, followed, is_undefined, jumped, linked_jump}
use Rattle.guest_machine.specs.Effects.{moved_to, next_of, quiet, raising, results_in, stopped, stops, store, target}
use Rattle.instructions.specs.declared.width.Width.TheVariants.{Word as Word4}
use Rattle.guest_machine.specs.Calls.{answers, argument, call_at, call_tested, ebadf, enospc, failure, heap_parameters}
use Rattle.guest_machine.specs.Calls.{has_room, is_output, parameters_of, read_call, tested_from}
use Rattle.guest_machine.specs.Calls.{write_call}
use Rattle.guest_machine.specs.HeapCalls.{Resizing, Allocates, Refuses, Frees, Keeps, Moves, block_at, freed, heap_work}
use Rattle.guest_machine.specs.HeapCalls.{released_here, resized, resizing}
use Rattle.guest_machine.specs.NamedCalls.{named_by, named_tested, return_address, returns}
use Rattle.guest_machine.specs.Exec.{Action, Takes, Cut, CallsByName, Halts, Terms, call_effect, effect_at, exec}
use Rattle.guest_machine.specs.Exec.{outcome_at}
use Rattle.guest_machine.specs.Exec.{fetch_by}
use Rattle.guest_machine.specs.Exec.{fetch_fault, fetched, half_at, word_at, word_fault}
use Rattle.guest_machine.specs.Exec.{called_here, action_at, fetches, is_running, jump_fault, outcome}
use Rattle.guest_machine.specs.Exec.{row_effect, unfetched}
use Rattle.guest_machine.specs.declared.setup.Setup.{Setup}
use Rattle.guest_machine.specs.Laws.{GoesByFours, IsByFours, KeepsIsa, KeepsLimits, KeepsRegions}
use Rattle.guest_machine.specs.declared.environment_call.EnvironmentCall.{EnvironmentCall}
use Rattle.guest_machine.specs.declared.environment_call.EnvironmentCall.TheVariants.{Read, Write, Exit, ExitGroup}
use Rattle.guest_machine.specs.declared.environment_call.EnvironmentCall.TheVariants.{Heap, Unknown}
use Rattle.guest_machine.proofs.StreamLaw.{reads-in, writes-from}

-- what no step changes: the instruction set, the region of the stack, where the heap's region begins, and how many
-- bytes calls move
abbrev Fixed : Type 0
Fixed = Isa × StackRegion × ℕ × StreamLimits

abbrev fixed : Core → Fixed
fixed c = (c.isa, c.stack, c.blocks.begin, c.limits)

either : (b : Bool) (f : Fixed) (x y : Core) → fixed x ≡ f → fixed y ≡ f → fixed (cond b x y) ≡ f
either true f x y h k = h
either false f x y h k = k

-- ---- tests

tests : (c : Core) (r : ℕ) → fixed (tested c r) ≡ fixed c
unfolding tested set_register
tests c r = either ((register c r).undef == 0) (fixed c) c (defined c r) refl refl

tests-from : (c : Core) (r : ℕ) (ps : List Parameter) → fixed (tested_from c r ps) ≡ fixed c
unfolding tested_from
tests-from c r [] = refl
tests-from c r (p ∷ ps) = tests-from (tested c r) (r + 1) ps ∙ tests c r

call-tests : (c : Core) (call : EnvironmentCall) → fixed (call_tested c call) ≡ fixed c
call-tests c call = tests-from (tested c 17) 10 (parameters_of call) ∙ tests c 17

-- ---- the stack pointer rule

frames : (c : Core) (low high : ℕ) (kind : RangeKind) → fixed (framed c low high kind) ≡ fixed c
unfolding framed
frames c low high kind =
    either (nat_le (high - low) largest_frame) (fixed c) (ranged c low (high - low) kind) c refl refl

moves : (c : Core) (old new : ℕ) → fixed (stack_moved c old new) ≡ fixed c
unfolding stack_moved
moves c old new =
    either (nat_lt new old) (fixed c) (framed c new old Undefined) (cond (nat_lt old new) (framed c old new NoAccess) c)
    (frames c new old Undefined)
    (either (nat_lt old new) (fixed c) (framed c old new NoAccess) c (frames c old new NoAccess) refl)

rules : (old : Bits) (c : Core) → fixed (stack_ruled old c) ≡ fixed c
unfolding stack_ruled
rules old c =
    either (is_stack_pointer c.stack old && is_stack_pointer c.stack (register c 2)) (fixed c)
    (stack_moved c old.value (register c 2).value) c (moves c old.value (register c 2).value) refl

-- ---- jumps

links : (c : Core) (next : ℕ) (hint : StackHint) (rd to : ℕ) → fixed (linked_jump c next hint rd to) ≡ fixed c
unfolding linked_jump set_register
links c next hint rd to =
    either (is_aligned c.isa to) (fixed c) (moved_to (set_register (followed c next hint to) rd (known next)) to)
    (stopped c Misaligned) refl refl

branches : (b : Bool) (c : Core) (next to : ℕ) → fixed (branched b c next to) ≡ fixed c
unfolding branched jumped
branches true c next to = either (is_aligned c.isa to) (fixed c) (moved_to c to) (stopped c Misaligned) refl refl
branches false c next to = refl

-- ---- the heap

frees : (c : Core) (released : Released) (volume : ℕ) → fixed (freed c released volume) ≡ fixed c
unfolding freed
frees c (Done b) volume = refl
frees c Nothing volume = refl
frees c Invalid volume = refl

allocates : (c : Core) (found : Option ℕ) (size redzone : ℕ) (kind : RangeKind)
    → fixed (block_at c found size redzone kind) ≡ fixed c
unfolding block_at set_register
allocates c None size redzone kind = refl
allocates c (Some p) size redzone kind = refl

resizes : (c : Core) (p size redzone volume : ℕ) (what : Resizing)
    → fixed (resized c p size redzone volume what) ≡ fixed c
unfolding resized set_register
resizes c p size redzone volume Allocates = allocates c (place c.blocks size redzone) size redzone Undefined
resizes c p size redzone volume Refuses = refl
resizes c p size redzone volume Frees = frees c (released_here c p) volume
resizes c p size redzone volume Keeps = refl
resizes c p size redzone volume (Moves b q) = frees _ _ volume

works : (function : Hook) (c : Core) (x y redzone volume : ℕ) (taken : ℕ → ℕ)
    → fixed (heap_work function c x y redzone volume taken).core ≡ fixed c
unfolding heap_work set_register
works Malloc c x y redzone volume taken = allocates c (place c.blocks x redzone) x redzone Undefined
works Free c x y redzone volume taken = frees c (released_here c x) volume
works Calloc c x y redzone volume taken = allocates c (place c.blocks (x * y) redzone) (x * y) redzone Defined
works Realloc c x y redzone volume taken = resizes c x y redzone volume (resizing c.blocks x y redzone)

named : (b : Bool) (function : Hook) (c : Core) (redzone volume : ℕ) (taken : ℕ → ℕ)
    → fixed (named_by b function c redzone volume taken).core ≡ fixed c
unfolding named_by
named true function c redzone volume taken =
    works function (named_tested c function) (argument c 10) (argument c 11) redzone volume taken
    ∙ tests-from (tested c 1) 10 (heap_parameters function) ∙ tests c 1
named false function c redzone volume taken = tests c 1

-- ---- calls

either-effect : (b : Bool) (f : Fixed) (e h : Effect) → fixed e.core ≡ f → fixed h.core ≡ f
    → fixed (cond b e h).core ≡ f
either-effect true f e h p q = p
either-effect false f e h p q = q

answer : (c : Core) (next : ℕ) (call : EnvironmentCall) (n : ℕ) → fixed (answers c next call n).core ≡ fixed c
unfolding set_register
answer c next call n = call-tests c call

calls : (c : Core) (next : ℕ) (call : EnvironmentCall) (terms : Terms) (given : List ℕ) (taken : ℕ → ℕ)
    → fixed (call_effect c next call terms given taken).core ≡ fixed c
unfolding call_effect read_call write_call reads-in writes-from set_register
calls c next Read terms given taken =
    either-effect (argument c 10 == 0) (fixed c) (reads-in c next terms.intake.count given)
    (answers c next Read (failure ebadf)) (call-tests c Read) (answer c next Read (failure ebadf))
calls c next Write terms given taken =
    either-effect (is_output (argument c 10)) (fixed c)
    (cond (has_room c terms.written) (writes-from c next taken)
    (answers c next Write (failure enospc)))
    (answers c next Write (failure ebadf))
    (either-effect (has_room c terms.written) (fixed c) (writes-from c next taken)
    (answers c next Write (failure enospc)) (call-tests c Write) (answer c next Write (failure enospc)))
    (answer c next Write (failure ebadf))
calls c next Exit terms given taken = call-tests c Exit
calls c next ExitGroup terms given taken = call-tests c ExitGroup
calls c next (Heap function) terms given taken =
    works function (call_tested c (Heap function)) (argument c 10) (argument c 11) terms.redzone terms.volume taken
    ∙ call-tests c (Heap function)
calls c next Unknown terms given taken = call-tests c Unknown

-- ---- atomic instructions

admitted-keeps : (c : Core) (next : ℕ) (atomic : Atomic) (rd rs1 rs2 : ℕ) (taken : ℕ → ℕ)
    → fixed (admitted c next atomic rd rs1 rs2 taken).core ≡ fixed c
unfolding set_register
admitted-keeps c next LoadReserved rd rs1 rs2 taken = tests c rs1
admitted-keeps c next StoreConditional rd rs1 rs2 taken =
    either-effect (is_reserved c rs1) (fixed c) (resulting rd 0 (store c next Word4 rs1 rs2 0))
    (resulting rd 1 (not_stored c next rs1)) (tests c rs1) (tests c rs1)
admitted-keeps c next (Updating update) rd rs1 rs2 taken = tests c rs1

atomic-keeps : (c : Core) (next : ℕ) (atomic : Atomic) (rd rs1 rs2 : ℕ) (taken : ℕ → ℕ)
    → fixed (atomic_effect c next atomic rd rs1 rs2 taken).core ≡ fixed c
unfolding atomic_effect
atomic-keeps c next atomic rd rs1 rs2 taken =
    either-effect (admits c rs1) (fixed c) (admitted c next atomic rd rs1 rs2 taken) (not_admitted c rs1)
    (admitted-keeps c next atomic rd rs1 rs2 taken)
    (either-effect (has_atomics c.isa) (fixed c) (raising (stopped (tested c rs1) Misaligned) (value_errors c rs1))
    (stops c Illegal) (tests c rs1) refl)

-- ---- a step

branch-tests : (c : Core) (test : Comparison) (rs1 rs2 : ℕ) → fixed (branch_tested c test rs1 rs2) ≡ fixed c
unfolding branch_tested set_register
branch-tests c test rs1 rs2 =
    either (is_undefined c test rs1 rs2) (fixed c) (defined (defined c rs1) rs2) c refl refl

control-keeps : (c : Core) (next : ℕ) (access : ControlAccess) (rd number : ℕ) (operand : ControlOperand)
    → fixed (control_effect c next access rd number operand).core ≡ fixed c
unfolding control_effect set_register
control-keeps c next access rd number operand =
    either-effect (has_control c access number operand) (fixed c)
    (results_in (record c { controls = controls_after c access number operand }) next rd (control c number))
    (stops c Illegal) refl refl

barrier-keeps : (c : Core) (next : ℕ) → fixed (barrier c next).core ≡ fixed c
unfolding barrier
barrier-keeps c next =
    either-effect (has_controls c.isa) (fixed c) (quiet (moved_to c next)) (stops c Illegal) refl refl

row-keeps : (c : Core) (next : ℕ) (row : Option Instruction) (terms : Terms) (given : List ℕ) (taken : ℕ → ℕ)
    → fixed (row_effect c next row terms given taken).core ≡ fixed c
unfolding row_effect set_register
row-keeps c next None terms given taken = refl
row-keeps c next (Some (LoadUpper rd imm)) terms given taken = refl
row-keeps c next (Some (AddUpper rd imm)) terms given taken = refl
row-keeps c next (Some (Jump rd imm)) terms given taken = links c next (jal_hint rd) rd ((c.pc + imm) % 2 ^ 32)
row-keeps c next (Some (JumpRegister rd rs1 imm)) terms given taken =
    links (tested c rs1) next (jalr_hint rd rs1) rd (target c rs1 imm / 2 * 2) ∙ tests c rs1
row-keeps c next (Some (Branch test rs1 rs2 imm)) terms given taken =
    branches (passes test (register c rs1).value (register c rs2).value) (branch_tested c test rs1 rs2) next
    ((c.pc + imm) % 2 ^ 32) ∙ branch-tests c test rs1 rs2
row-keeps c next (Some (Load width signed rd rs1 imm)) terms given taken = tests c rs1
row-keeps c next (Some (Store width rs1 rs2 imm)) terms given taken = tests c rs1
row-keeps c next (Some (Immediate operation rd rs1 imm)) terms given taken = refl
row-keeps c next (Some (Registers operation rd rs1 rs2)) terms given taken = refl
row-keeps c next (Some Fence) terms given taken = refl
row-keeps c next (Some CallEnvironment) terms given taken = calls c next (call_at c) terms given taken
row-keeps c next (Some Breakpoint) terms given taken = refl
row-keeps c next (Some (rows.LoadReserved rd rs1)) terms given taken = atomic-keeps c next LoadReserved rd rs1 0 taken
row-keeps c next (Some (rows.StoreConditional rd rs1 rs2)) terms given taken =
    atomic-keeps c next StoreConditional rd rs1 rs2 taken
row-keeps c next (Some (rows.Update update rd rs1 rs2)) terms given taken =
    atomic-keeps c next (Updating update) rd rs1 rs2 taken
row-keeps c next (Some (rows.Control access rd number operand)) terms given taken =
    control-keeps c next access rd number operand
row-keeps c next (Some rows.Barrier) terms given taken = barrier-keeps c next

fault-keeps : (c : Core) (fault : Option ℕ) → fixed (jump_fault c fault).core ≡ fixed c
fault-keeps c None = refl
fault-keeps c (Some a) = refl

none-taken : (c : Core) → fixed (unfetched c).core ≡ fixed c
unfolding unfetched
none-taken c =
    either-effect (is_running c.status) (fixed c)
    (cond (is_aligned c.isa c.pc) (jump_fault c (fetch_fault c)) (stops c Misaligned)) (quiet c)
    (either-effect (is_aligned c.isa c.pc) (fixed c) (jump_fault c (fetch_fault c)) (stops c Misaligned)
    (fault-keeps c (fetch_fault c)) refl) refl

action-keeps : (c : Core) (terms : Terms) (action : Action) (given : List ℕ) (taken : ℕ → ℕ)
    → fixed (outcome c terms action given taken).core ≡ fixed c
action-keeps c terms (Takes code) given taken =
    rules (register c 2) (row_effect c (next_of c (len_of code)) (row_of_code code) terms given taken).core
    ∙ row-keeps c (next_of c (len_of code)) (row_of_code code) terms given taken
action-keeps c terms Cut given taken = fault-keeps c (word_fault c)
action-keeps c terms (CallsByName function) given taken =
    named (returns c) function c terms.redzone terms.volume taken
action-keeps c terms Halts given taken = none-taken c

keeps-fixed : (setup : Setup) (s : State) → fixed (exec s setup).core ≡ fixed s.core
unfolding exec effect_at outcome_at
keeps-fixed setup s = action-keeps s.core _ (action_at s.core s.bytes setup.hooks) _ _

pub keeps-isa : KeepsIsa
keeps-isa setup s = ap (λ (f : Fixed). f.0) (keeps-fixed setup s)

pub keeps-regions : KeepsRegions
keeps-regions = record {
  stack = λ setup s. ap (λ (f : Fixed). f.1) (keeps-fixed setup s);
  heap = λ setup s. ap (λ (f : Fixed). f.2) (keeps-fixed setup s);
}

pub keeps-limits : KeepsLimits
keeps-limits setup s = ap (λ (f : Fixed). f.3) (keeps-fixed setup s)

-- ---- where an instruction may begin

-- a word is whole where its four bytes are fetched first
whole : (may : Bool) (fault : Option ℕ) (half word : ℕ) → (may ≡ true → is_none fault ≡ true)
    → fetch_by may false (is_none fault) half word ≡ cond may (Takes (Word word)) Halts
whole false fault half word h = refl
whole true fault half word h = ap (λ b. fetch_by true false b half word) (h refl)

last-true : (p q r : Bool) → p && (q && r) ≡ true → r ≡ true
last-true true true r h = h
last-true true false r h = cc
last-true false q r h = cc

by-fours : (core : Core) → core.isa ≡ rv32im → IsByFours core
unfolding jumped linked_jump called_here fetched fetches unfetched unit has_controls is_half first_inaccessible
by-fours core is = record {
  jumps = λ to. (λ i. cond (is_aligned (is i) to) (moved_to core to) (stopped core Misaligned));
  links = λ next hint rd to. (λ i. cond (is_aligned (is i) to)
      (moved_to (set_register (followed core next hint to) rd (known next)) to) (stopped core Misaligned));
  returns = λ i. is_aligned (is i) (return_address core);
  calls = λ hooks. (λ i. cond (is_running core.status && is_aligned (is i) core.pc) (hook_at hooks core.pc) None);
  fetches = λ i. is_running core.status && (is_aligned (is i) core.pc
      && is_none (first_inaccessible core.shadow core.pc (unit (is i))));
  takes = λ bytes.
      (λ i. fetch_by (fetches core) (is_half (is i) (half_at core bytes)) (is_none (word_fault core))
      (half_at core bytes) (word_at core bytes))
      ∙ whole (fetches core) (word_fault core) (half_at core bytes) (word_at core bytes)
      (λ may. ap (λ isa. is_none (first_inaccessible core.shadow core.pc (unit isa))) (sym is)
      ∙ last-true (is_running core.status) (is_aligned core.isa core.pc) (is_none (fetch_fault core)) may)
      ∙ (λ i. cond (is_running core.status && (is_aligned (is i) core.pc
      && is_none (first_inaccessible core.shadow core.pc (unit (is i))))) (Takes (Word (word_at core bytes))) Halts);
  halts = λ i. cond (is_running core.status)
      (cond (is_aligned (is i) core.pc)
      (jump_fault core (first_inaccessible core.shadow core.pc (unit (is i)))) (stops core Misaligned)) (quiet core);
  skips = λ bytes. (λ i. record (moved_to core (next_of core (cond (is_half (is i) (half_at core bytes)) 2 4))) {
    steps = cond (has_controls (is i)) ((core.steps + 1) % 2 ^ 64) core.steps;
  });
}

pub goes-by-fours : GoesByFours
goes-by-fours = by-fours

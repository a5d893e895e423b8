-- What a step has to do with input and output follows from its instruction.
use Rattle.std.proofs.Common.{◌≡◌, ◌⊎◌, inl, inr, ℕ, zero, suc, ◌+◌, ◌&&◌, ◌==◌, Bool, true, false}
use Rattle.std.proofs.Common.{cond, List, [], ◌++◌, length, append-nil, append_assoc, Option, Some, None}
use Rattle.std.proofs.Common.{refl, ap, sym, ◌∙◌, arith, add-zero}
use Rattle.guest_elf.specs.Profiles.{has_atomics, is_aligned}
use Rattle.guest_elf.specs.declared.hook.Hook.{Hook}
use Rattle.guest_elf.specs.declared.hook.Hook.TheVariants.{Malloc, Free, Calloc, Realloc}
use Rattle.shadow_memory.specs.Ranges.{window}
use Rattle.run_values.specs.declared.span.Span.{Span}
use Rattle.instructions.specs.Codes.{len_of, row_of_code}
use Rattle.instructions.specs.declared.instruction.Instruction.{Instruction}
use Rattle.instructions.specs.declared.instruction.Instruction.TheVariants.{LoadUpper, AddUpper, Jump, JumpRegister}
use Rattle.instructions.specs.declared.instruction.Instruction.TheVariants.{Branch, Load, Store, Immediate, Registers}
use Rattle.instructions.specs.declared.instruction.Instruction.TheVariants.{Fence, CallEnvironment, Breakpoint}
use Rattle.instructions.specs.declared.instruction.Instruction.TheVariants as rows
use Rattle.instructions.specs.declared.atomic.Atomic.{Atomic}
use Rattle.instructions.specs.declared.atomic.Atomic.TheVariants.{LoadReserved, StoreConditional}
use Rattle.instructions.specs.declared.atomic.Atomic.TheVariants.{Update as Updating}
use Rattle.instructions.specs.declared.width.Width.TheVariants.{Word}
use Rattle.guest_machine.specs.State.{Core, State}
use Rattle.std.specs.Prelude.{slice_index}
use Rattle.error_events.specs.declared.parameter.Parameter.TheVariants.{ReadBuffer, WriteBuffer}
use Rattle.run_values.specs.declared.status.Stop.TheVariants.{Illegal, Misaligned}
use Rattle.instructions.specs.declared.control.ControlAccess.{ControlAccess}
use Rattle.instructions.specs.declared.control.ControlOperand.{ControlOperand}
use Rattle.guest_elf.specs.Profiles.{has_controls}
use Rattle.guest_machine.specs.Effects.{results_in}
use Rattle.guest_machine.specs.Controls.{barrier, control, control_effect, controls_after, has_control}
use Rattle.guest_machine.specs.Atomics.{admits, admitted, atomic_effect, is_reserved, not_admitted, not_stored}
use Rattle.guest_machine.specs.Atomics.{resulting}
use Rattle.guest_machine.specs.Errors.{buffer_errors, value_errors}
use Rattle.guest_machine.specs.Registers.{tested}
use Rattle.guest_machine.specs.Effects.{Effect, moved_to, next_of, no_bytes, quiet, raising, stopped, stops, store}
use Rattle.guest_machine.specs.Effects.{stored_core}
use Rattle.guest_machine.specs.Calls.{answered, argument, answers, appends, bytes_taken, call_at, is_output}
use Rattle.guest_machine.specs.Calls.{moved_len, failure, has_room}
use Rattle.guest_machine.specs.Calls.{call_errors, call_tested, ebadf, enospc}
use Rattle.guest_machine.specs.Calls.{read_call, write_call}
use Rattle.guest_machine.specs.HeapCalls.{heap_work}
use Rattle.guest_machine.specs.NamedCalls.{named_by, returns}
use Rattle.guest_machine.specs.Exec.{Action, Takes, Cut, CallsByName, Halts, Terms, Uses, word_fault}
use Rattle.guest_machine.specs.Exec.{call_effect, call_uses, row_asks, row_effect, row_uses, exec}
use Rattle.guest_machine.specs.Exec.{action_at, action_asks, action_terms, effect_at, outcome_at, uses_at, intake_at}
use Rattle.guest_machine.specs.Exec.{intake_of, left_at}
use Rattle.guest_machine.specs.Exec.{given_at, outcome, plan, taken_from, written_to, touched_at, unfetched}
use Rattle.guest_machine.specs.Exec.{fetch_fault, is_running}
use Rattle.guest_machine.specs.Exec.{jump_fault, seen_also}
use Rattle.guest_machine.specs.Run.{pre}
use Rattle.guest_machine.specs.Streams.{row_in, row_at, calls_out, refuses_row, refuses_write, bytes_over}
use Rattle.guest_machine.specs.Streams.{OnlyCallsSpeak, WritesWhatItReads, OutputGrows}
use Rattle.guest_machine.specs.declared.environment_call.EnvironmentCall.{EnvironmentCall}
use Rattle.guest_machine.specs.declared.environment_call.EnvironmentCall.TheVariants.{Read, Write, Exit, ExitGroup}
use Rattle.guest_machine.specs.declared.environment_call.EnvironmentCall.TheVariants.{Heap, Unknown}
use Rattle.guest_machine.specs.declared.setup.Setup.{Setup}
use Rattle.guest_machine.proofs.Running.{one-more}

-- ---- atomic instructions, and those of control registers

-- of two effects that write nothing out either does so
of-two : (b : Bool) (one other : Effect) → one.output ≡ [] → other.output ≡ [] → (cond b one other).output ≡ []
of-two true one other h k = h
of-two false one other h k = k

admitted-silent : (core : Core) (next : ℕ) (atomic : Atomic) (rd rs1 rs2 : ℕ) (taken : ℕ → ℕ)
    → (admitted core next atomic rd rs1 rs2 taken).output ≡ []
admitted-silent core next LoadReserved rd rs1 rs2 taken = refl
admitted-silent core next StoreConditional rd rs1 rs2 taken =
    of-two (is_reserved core rs1) (resulting rd 0 (store core next Word rs1 rs2 0))
    (resulting rd 1 (not_stored core next rs1)) refl refl
admitted-silent core next (Updating update) rd rs1 rs2 taken = refl

atomic-silent : (core : Core) (next : ℕ) (atomic : Atomic) (rd rs1 rs2 : ℕ) (taken : ℕ → ℕ)
    → (atomic_effect core next atomic rd rs1 rs2 taken).output ≡ []
unfolding atomic_effect
atomic-silent core next atomic rd rs1 rs2 taken =
    of-two (admits core rs1) (admitted core next atomic rd rs1 rs2 taken) (not_admitted core rs1)
    (admitted-silent core next atomic rd rs1 rs2 taken)
    (of-two (has_atomics core.isa) (raising (stopped (tested core rs1) Misaligned) (value_errors core rs1))
    (stops core Illegal) refl refl)

control-silent : (core : Core) (next : ℕ) (access : ControlAccess) (rd number : ℕ) (operand : ControlOperand)
    → (control_effect core next access rd number operand).output ≡ []
unfolding control_effect
control-silent core next access rd number operand =
    of-two (has_control core access number operand)
    (results_in (record core { controls = controls_after core access number operand }) next rd (control core number))
    (stops core Illegal) refl refl

barrier-silent : (core : Core) (next : ℕ) → (barrier core next).output ≡ []
unfolding barrier
barrier-silent core next =
    of-two (has_controls core.isa) (quiet (moved_to core next)) (stops core Illegal) refl refl

-- ---- instructions that are no ECALL

-- such an instruction asks for no input, writes nothing out, and refuses nothing
record Silent (core : Core) (next : ℕ) (row : Option Instruction) (terms : Terms) (given : List ℕ)
    (taken : ℕ → ℕ) : Type 0 where
  asks : row_asks core row ≡ None
  output : (row_effect core next row terms given taken).output ≡ []
  fits : (written : ℕ) → refuses_row core row written ≡ false

silent : (core : Core) (next : ℕ) (row : Option Instruction) (terms : Terms) (given : List ℕ) (taken : ℕ → ℕ)
    → calls_out row ≡ false → Silent core next row terms given taken
unfolding calls_out row_asks row_effect refuses_row
silent core next None terms given taken h = record { asks = refl; output = refl; fits = λ n. refl }
silent core next (Some (LoadUpper rd imm)) terms given taken h = record { asks = refl; output = refl; fits = λ n. refl }
silent core next (Some (AddUpper rd imm)) terms given taken h = record { asks = refl; output = refl; fits = λ n. refl }
silent core next (Some (Jump rd imm)) terms given taken h = record { asks = refl; output = refl; fits = λ n. refl }
silent core next (Some (JumpRegister rd rs1 imm)) terms given taken h =
    record { asks = refl; output = refl; fits = λ n. refl }
silent core next (Some (Branch test rs1 rs2 imm)) terms given taken h =
    record { asks = refl; output = refl; fits = λ n. refl }
silent core next (Some (Load width signed rd rs1 imm)) terms given taken h =
    record { asks = refl; output = refl; fits = λ n. refl }
silent core next (Some (Store width rs1 rs2 imm)) terms given taken h =
    record { asks = refl; output = refl; fits = λ n. refl }
silent core next (Some (Immediate operation rd rs1 imm)) terms given taken h =
    record { asks = refl; output = refl; fits = λ n. refl }
silent core next (Some (Registers operation rd rs1 rs2)) terms given taken h =
    record { asks = refl; output = refl; fits = λ n. refl }
silent core next (Some Fence) terms given taken h = record { asks = refl; output = refl; fits = λ n. refl }
silent core next (Some CallEnvironment) terms given taken h = cc
silent core next (Some Breakpoint) terms given taken h = record { asks = refl; output = refl; fits = λ n. refl }
silent core next (Some (rows.LoadReserved rd rs1)) terms given taken h =
    record { asks = refl; output = atomic-silent core next LoadReserved rd rs1 0 taken; fits = λ n. refl }
silent core next (Some (rows.StoreConditional rd rs1 rs2)) terms given taken h =
    record { asks = refl; output = atomic-silent core next StoreConditional rd rs1 rs2 taken; fits = λ n. refl }
silent core next (Some (rows.Update update rd rs1 rs2)) terms given taken h =
    record { asks = refl; output = atomic-silent core next (Updating update) rd rs1 rs2 taken; fits = λ n. refl }
silent core next (Some (rows.Control access rd number operand)) terms given taken h =
    record { asks = refl; output = control-silent core next access rd number operand; fits = λ n. refl }
silent core next (Some rows.Barrier) terms given taken h =
    record { asks = refl; output = barrier-silent core next; fits = λ n. refl }

-- ---- calls of the heap, and steps that carry nothing out

heap-silent : (function : Hook) (core : Core) (x y redzone volume : ℕ) (taken : ℕ → ℕ)
    → (heap_work function core x y redzone volume taken).output ≡ []
unfolding heap_work
heap-silent Malloc core x y redzone volume taken = refl
heap-silent Free core x y redzone volume taken = refl
heap-silent Calloc core x y redzone volume taken = refl
heap-silent Realloc core x y redzone volume taken = refl

named-silent : (b : Bool) (function : Hook) (core : Core) (redzone volume : ℕ) (taken : ℕ → ℕ)
    → (named_by b function core redzone volume taken).output ≡ []
unfolding named_by
named-silent true function core redzone volume taken = heap-silent function _ _ _ redzone volume taken
named-silent false function core redzone volume taken = refl

fault-silent : (core : Core) (fault : Option ℕ) → (jump_fault core fault).output ≡ []
fault-silent core None = refl
fault-silent core (Some a) = refl

halt-silent : (core : Core) → (unfetched core).output ≡ []
unfolding unfetched
halt-silent core =
    of-two (is_running core.status)
    (cond (is_aligned core.isa core.pc) (jump_fault core (fetch_fault core)) (stops core Misaligned)) (quiet core)
    (of-two (is_aligned core.isa core.pc) (jump_fault core (fetch_fault core)) (stops core Misaligned)
    (fault-silent core (fetch_fault core)) refl) refl

-- ---- ECALL

-- an effect writes nothing out; or the bytes of a range that was read, and it writes none
Spoken : (ℕ → ℕ) → Uses → List ℕ → Type 0
Spoken bytes uses output = (output ≡ []) ⊎ ((output ≡ bytes_over bytes uses.reads) × (uses.writes ≡ None))

-- of `write`, by whether the descriptor is the output, and whether there is room
write-spoken : (is_out fits : Bool) (bytes : ℕ → ℕ) (range : Span) (full : (ℕ → ℕ) → Effect) (other closed : Effect)
    → ((taken : ℕ → ℕ) → (full taken).output ≡ bytes_taken taken range.len) → other.output ≡ [] → closed.output ≡ []
    → Spoken bytes (record { reads = cond (is_out && fits) (Some range) None; writes = None })
    (cond is_out (cond fits (full (taken_from bytes (cond (is_out && fits) (Some range) None))) other) closed).output
unfolding Spoken bytes_over
write-spoken true true bytes range full other closed f h k = inr (f (window bytes range.start range.len), refl)
write-spoken true false bytes range full other closed f h k = inl h
write-spoken false fits bytes range full other closed f h k = inl k

-- what `read` and `write` leave where they are carried out
unfoldable pub reads-in : Core → ℕ → ℕ → List ℕ → Effect
reads-in core next n given =
    let now = call_tested core Read in
    record {
      core = moved_to (answered (stored_core now (argument core 11) n 0) n) next;
      raised = call_errors core Read ++ buffer_errors now ReadBuffer false (argument core 11) (moved_len core);
      made = slice_index given;
      output = [];
    }

unfoldable pub writes-from : Core → ℕ → (ℕ → ℕ) → Effect
writes-from core next taken =
    let now = call_tested core Write in
    let n = moved_len core in
    record {
      core = moved_to (answered now n) next;
      raised = call_errors core Write ++ buffer_errors now WriteBuffer true (argument core 11) n;
      made = no_bytes;
      output = bytes_taken taken n;
    }

call-spoken : (core : Core) (next : ℕ) (call : EnvironmentCall) (terms : Terms) (given : List ℕ) (bytes : ℕ → ℕ)
    → Spoken bytes (call_uses core call terms)
    (call_effect core next call terms given (taken_from bytes (call_uses core call terms).reads)).output
unfolding call_effect call_uses Spoken read_call write_call appends reads-in writes-from
call-spoken core next Read terms given bytes =
    inl (of-two (argument core 10 == 0) (reads-in core next terms.intake.count given)
    (answers core next Read (failure ebadf)) refl refl)
call-spoken core next Write terms given bytes =
    write-spoken (is_output (argument core 10)) (has_room core terms.written) bytes
    (record { start = argument core 11; len = moved_len core }) (writes-from core next)
    (answers core next Write (failure enospc))
    (answers core next Write (failure ebadf)) (λ taken. refl) refl refl
call-spoken core next Exit terms given bytes = inl refl
call-spoken core next ExitGroup terms given bytes = inl refl
call-spoken core next (Heap function) terms given bytes = inl (heap-silent function _ _ _ _ _ _)
call-spoken core next Unknown terms given bytes = inl refl

-- ---- a step

row-spoken : (core : Core) (next : ℕ) (row : Option Instruction) (terms : Terms) (given : List ℕ) (bytes : ℕ → ℕ)
    → Spoken bytes (row_uses core row terms)
    (row_effect core next row terms given (taken_from bytes (row_uses core row terms).reads)).output
unfolding Spoken row_uses row_effect calls_out
row-spoken core next (Some CallEnvironment) terms given bytes = call-spoken core next (call_at core) terms given bytes
row-spoken core next None terms given bytes = inl refl
row-spoken core next (Some (LoadUpper rd imm)) terms given bytes = inl refl
row-spoken core next (Some (AddUpper rd imm)) terms given bytes = inl refl
row-spoken core next (Some (Jump rd imm)) terms given bytes = inl refl
row-spoken core next (Some (JumpRegister rd rs1 imm)) terms given bytes = inl refl
row-spoken core next (Some (Branch test rs1 rs2 imm)) terms given bytes = inl refl
row-spoken core next (Some (Load width signed rd rs1 imm)) terms given bytes = inl refl
row-spoken core next (Some (Store width rs1 rs2 imm)) terms given bytes = inl refl
row-spoken core next (Some (Immediate operation rd rs1 imm)) terms given bytes = inl refl
row-spoken core next (Some (Registers operation rd rs1 rs2)) terms given bytes = inl refl
row-spoken core next (Some Fence) terms given bytes = inl refl
row-spoken core next (Some Breakpoint) terms given bytes = inl refl
row-spoken core next (Some (rows.LoadReserved rd rs1)) terms given bytes =
    inl (atomic-silent core next LoadReserved rd rs1 0 _)
row-spoken core next (Some (rows.StoreConditional rd rs1 rs2)) terms given bytes =
    inl (atomic-silent core next StoreConditional rd rs1 rs2 _)
row-spoken core next (Some (rows.Update update rd rs1 rs2)) terms given bytes =
    inl (atomic-silent core next (Updating update) rd rs1 rs2 _)
row-spoken core next (Some (rows.Control access rd number operand)) terms given bytes =
    inl (control-silent core next access rd number operand)
row-spoken core next (Some rows.Barrier) terms given bytes = inl (barrier-silent core next)

action-spoken : (core : Core) (action : Action) (terms : Terms) (given : List ℕ) (bytes : ℕ → ℕ)
    → Spoken bytes (plan core terms action)
    (outcome core terms action given (taken_from bytes (plan core terms action).reads)).output
unfolding Spoken
action-spoken core (Takes code) terms given bytes =
    row-spoken core (next_of core (len_of code)) (row_of_code code) terms given bytes
action-spoken core Cut terms given bytes = inl (fault-silent core (word_fault core))
action-spoken core (CallsByName function) terms given bytes =
    inl (named-silent (returns core) function core terms.redzone terms.volume _)
action-spoken core Halts terms given bytes = inl (halt-silent core)

pub writes-what-it-reads : WritesWhatItReads
unfolding Spoken exec uses_at effect_at outcome_at touched_at
writes-what-it-reads setup s =
    let action = action_at s.core s.bytes setup.hooks in
    let terms = action_terms s.core action s.position (length s.output) setup in
    let uses = plan s.core terms action in
    let effect = outcome s.core terms action (given_at s.position terms.intake.count setup)
    (taken_from s.bytes uses.reads) in
    elim (action-spoken s.core action terms (given_at s.position terms.intake.count setup) s.bytes) [
      | inl none ↦ inl (ap (λ xs. s.output ++ xs) none ∙ append-nil s.output)
      | inr some ↦ inr (ap (λ xs. s.output ++ xs) some.0, ap (λ range. written_to s.bytes range effect.made) some.1)
    ]

action-quiet : (core : Core) (action : Action) (terms : Terms) (given : List ℕ) (taken : ℕ → ℕ)
    → calls_out (row_in action) ≡ false
    → (action_asks core action ≡ None) × ((outcome core terms action given taken).output ≡ [])
    × ((written : ℕ) → refuses_row core (row_in action) written ≡ false)
unfolding row_in refuses_row
action-quiet core (Takes code) terms given taken h =
    let q = silent core (next_of core (len_of code)) (row_of_code code) terms given taken h in
    (q.asks, q.output, q.fits)
action-quiet core Cut terms given taken h = (refl, fault-silent core (word_fault core), λ n. refl)
action-quiet core (CallsByName function) terms given taken h =
    (refl, named-silent (returns core) function core terms.redzone terms.volume taken, λ n. refl)
action-quiet core Halts terms given taken h = (refl, halt-silent core, λ n. refl)

pub only-calls-speak : OnlyCallsSpeak
unfolding exec uses_at effect_at outcome_at intake_at row_at refuses_write
only-calls-speak setup s h =
    let action = action_at s.core s.bytes setup.hooks in
    let terms = action_terms s.core action s.position (length s.output) setup in
    let uses = plan s.core terms action in
    let q = action-quiet s.core action terms (given_at s.position terms.intake.count setup)
    (taken_from s.bytes uses.reads) h in
    let left = left_at s.position setup in (
      record {
        position = sym (ap (λ asks. s.position + (intake_of asks left).count) q.0 ∙ add-zero s.position);
        end_seen = sym (ap (λ asks. seen_also s.end_seen (intake_of asks left).ends) q.0);
        output = sym (ap (λ xs. s.output ++ xs) q.1 ∙ append-nil s.output);
      },
      q.2 (length s.output),
    )

-- ---- a run

exec-adds : (s : State) (setup : Setup) → (more : List ℕ) × ((exec s setup).output ≡ s.output ++ more)
unfolding exec
exec-adds s setup = ((effect_at s.core s.bytes s.position (length s.output) setup).output, refl)

pub output-grows : OutputGrows
output-grows start setup n zero =
    ([], ap (λ k. (pre start setup [] k).output) (omega arith) ∙ sym (append-nil (pre start setup [] n).output))
output-grows start setup n (suc d) =
    let before = output-grows start setup n d in
    let last = exec-adds (pre start setup [] (n + d)) setup in
    let next : n + suc d ≡ suc (n + d) = omega arith in (
      before.0 ++ last.0,
      ap (λ k. (pre start setup [] k).output) next
          ∙ ap (λ t. t.output) (one-more start setup (n + d)) ∙ last.1
          ∙ ap (λ xs. xs ++ last.0) before.1 ∙ append_assoc (pre start setup [] n).output before.0 last.0,
    )

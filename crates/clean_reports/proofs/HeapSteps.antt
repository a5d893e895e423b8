-- Each step keeps the heap open and closed.
use Rattle.std.proofs.Common.{◌≡◌, ℕ, ◌+◌, ◌-◌, ◌*◌, ◌/◌, ◌%◌, ◌^◌, min, Bool, true, false}
use Rattle.std.proofs.Common.{cond, length, refl, sym, subst, inl, inr}
use Rattle.std.proofs.Common.{List, [], ◌∷◌, ◌++◌, Option}
use Rattle.std.proofs.Common.{Some, None}
use Rattle.std.proofs.Common.{◌==◌, slice_index}
use Rattle.std.proofs.lemmas.Bool.{cases_eq}
use Rattle.shadow_memory.specs.Shadows.{shadow_of}
use Rattle.shadow_memory.specs.declared.cells.RangeKind.{RangeKind}
use Rattle.shadow_memory.specs.declared.cells.RangeKind.TheVariants.{Undefined, Defined}
use Rattle.call_stacks.specs.declared.block.Block.{Block}
use Rattle.guest_heap.specs.Blocks.{freed_by, done_or}
use Rattle.guest_heap.specs.Steps.{place}
use Rattle.guest_heap.specs.declared.released.Released.TheVariants.{Done, Nothing}
use Rattle.guest_elf.specs.declared.hook.Hook.{Hook}
use Rattle.guest_elf.specs.declared.hook.Hook.TheVariants.{Malloc, Free, Calloc, Realloc}
use Rattle.error_events.specs.declared.parameter.Parameter.{Parameter}
use Rattle.instructions.specs.Codes.{len_of, row_of_code}
use Rattle.instructions.specs.declared.instruction.Instruction.{Instruction}
use Rattle.instructions.specs.declared.instruction.Instruction.TheVariants.{LoadUpper, AddUpper, Jump, JumpRegister}
use Rattle.instructions.specs.declared.instruction.Instruction.TheVariants.{Branch, Load, Store, Immediate, Registers}
use Rattle.instructions.specs.declared.instruction.Instruction.TheVariants.{Fence, CallEnvironment as CallRow}
use Rattle.instructions.specs.declared.instruction.Instruction.TheVariants.{Breakpoint}
use Rattle.instructions.specs.declared.instruction.Instruction.TheVariants as insns
use Rattle.instructions.specs.declared.atomic.Atomic.{Atomic}
use Rattle.instructions.specs.declared.atomic.Atomic.TheVariants.{LoadReserved, StoreConditional}
use Rattle.instructions.specs.declared.atomic.Atomic.TheVariants.{Update as Updating}
use Rattle.run_values.specs.declared.status.Stop.TheVariants.{Illegal, Misaligned}
use Rattle.guest_elf.specs.Profiles.{has_atomics, has_controls, is_aligned}
use Rattle.guest_machine.specs.State.{Core, State}
use Rattle.guest_machine.specs.Registers.{known, register, set_register, tested, defined}
use Rattle.guest_machine.specs.Errors.{here, value_errors}
use Rattle.guest_machine.specs.Effects.{next_of, moved_to, stopped, exited, stored_core, target}
use Rattle.guest_machine.specs.Effects.{branch_tested, raising, results_in, store}
use Rattle.guest_machine.specs.Atomics.{admits, admitted, atomic_effect, atomic_start, is_reserved, not_stored}
use Rattle.guest_machine.specs.Atomics.{resulting}
use Rattle.guest_machine.specs.Controls.{barrier, control, control_effect, controls_after, has_control}
use Rattle.instructions.specs.declared.control.ControlAccess.{ControlAccess}
use Rattle.instructions.specs.declared.control.ControlOperand.{ControlOperand}
use Rattle.guest_machine.specs.Effects.{is_undefined, quiet, stops}
use Rattle.guest_machine.specs.Calls.{argument, answered, tested_from, call_of, call_at, read_call, write_call}
use Rattle.guest_machine.specs.Calls.{parameters_of}
use Rattle.guest_machine.specs.Calls.{is_output, has_room, moved_len, heap_parameters, failure, ebadf, enospc}
use Rattle.guest_machine.specs.Calls.{enosys}
use Rattle.guest_machine.specs.Calls.{bytes_taken}
use Rattle.guest_machine.specs.Errors.{buffer_errors}
use Rattle.guest_machine.specs.Effects.{no_bytes}
use Rattle.instructions.specs.Widths.{width_len}
use Rattle.instructions.specs.declared.width.Width.TheVariants.{Word}
use Rattle.error_events.specs.declared.parameter.Parameter.TheVariants.{ReadBuffer, WriteBuffer, ExitStatus}
use Rattle.error_events.specs.declared.parameter.Parameter.TheVariants.{ExitGroupStatus}
use Rattle.guest_machine.specs.HeapCalls.{placed, carved, block_at, freed, released_here, Resizing, Allocates}
use Rattle.guest_machine.specs.HeapCalls.{Refuses, Frees, Keeps, Moves, resizing, copied, moved_block, resized}
use Rattle.guest_machine.specs.HeapCalls.{heap_work, heap_call}
use Rattle.guest_machine.specs.NamedCalls.{named_by, returns, returned_to, return_address}
use Rattle.guest_machine.specs.Exec.{Action, Takes, Cut, CallsByName, Halts, Terms, outcome, row_effect, word_fault}
use Rattle.guest_machine.specs.Exec.{call_effect, unfetched, jump_fault, is_running}
use Rattle.guest_machine.specs.Exec.{fetch_fault, action_at, exec, effect_at, outcome_at}
use Rattle.guest_machine.specs.declared.setup.Setup.{Setup}
use Rattle.clean_reports.proofs.Blocks.{allocated-open, allocated-closed, released-open}
use Rattle.clean_reports.proofs.Blocks.{released-closed}
use Rattle.clean_reports.proofs.HeapCalls.{is-move}
use Rattle.clean_reports.proofs.Calls.{test-errors, answer-by, read-parameters, write-parameters}
use Rattle.clean_reports.proofs.Rows.{other}
use Rattle.clean_reports.proofs.HeapKept.{Stands, LeavesHeap, then, as-is, on, sets, tests, call-tests, stores, copies}
use Rattle.clean_reports.proofs.HeapKept.{rules, links, branches, branch-tests, goes}

-- heap calls --

allocates : (b : Bool) (c : Core) → Stands b c → (size redzone : ℕ) (kind : RangeKind)
    → (shadow_of kind).accessible ≡ true → (o : Option ℕ) → place c.blocks size redzone ≡ o
    → Stands b (block_at c o size redzone kind)
unfolding block_at
allocates b c h size redzone kind seen None e = on b c (answered c 0) (sets c 10 (known 0)) h
allocates b c h size redzone kind seen (Some p) e =
    on b (carved (placed c (Some p) size redzone) p size redzone kind) _
    (sets (carved (placed c (Some p) size redzone) p size redzone kind) 10 (known p)) (go b h)
  where
    go : (b : Bool) → Stands b c → Stands b (carved (placed c (Some p) size redzone) p size redzone kind)
    go true h = (allocated-open c h.0 size redzone kind p seen e, allocated-closed c h.0 size redzone kind p seen e h.1)
    go false h = (allocated-open c h.0 size redzone kind p seen e, tt)

releases : (b : Bool) (c : Core) → Stands b c → (x volume : ℕ) → Stands b (freed c (released_here c x) volume)
unfolding freed
releases b c h x volume = go (x == 0) (c.blocks.live x) refl
  where
    there : (b : Bool) → Stands b c → (d : Block) → c.blocks.live x ≡ Some d
        → Stands b (freed c (Done (freed_by (here c) d)) volume)
    there true h d e = (released-open c h.0 x volume (here c) d e, released-closed c h.0 x volume (here c) d e h.1)
    there false h d e = (released-open c h.0 x volume (here c) d e, tt)

    go : (t : Bool) (o : Option Block) → c.blocks.live x ≡ o
        → Stands b (freed c (cond t Nothing (done_or (here c) o)) volume)
    go true o e = h
    go false None e = h
    go false (Some d) e = there b h d e

resizes : (b : Bool) (c : Core) → Stands b c → (x y redzone volume : ℕ) (what : Resizing)
    → resizing c.blocks x y redzone ≡ what → Stands b (resized c x y redzone volume what)
unfolding resized
resizes b c h x y redzone volume Allocates e = allocates b c h y redzone Undefined refl (place c.blocks y redzone) refl
resizes b c h x y redzone volume Refuses e = on b c (answered c 0) (sets c 10 (known 0)) h
resizes b c h x y redzone volume Frees e =
    on b (freed c (released_here c x) volume) _ (sets (freed c (released_here c x) volume) 10 (known 0))
    (releases b c h x volume)
resizes b c h x y redzone volume Keeps e = on b c (answered c 0) (sets c 10 (known 0)) h
resizes b c h x y redzone volume (Moves d q) e =
    on b (moved_block c x d q y redzone volume) _ (sets (moved_block c x d q y redzone volume) 10 (known q))
    (releases b full (on b both full (copies both x q (min d.size y)) (carves b h)) x volume)
  where
    both : Core
    both = carved (placed c (Some q) y redzone) q y redzone Undefined

    full : Core
    full = copied (carved (placed c (Some q) y redzone) q y redzone Undefined) x q (min d.size y)

    carves : (b : Bool) → Stands b c → Stands b (carved (placed c (Some q) y redzone) q y redzone Undefined)
    carves true h =
        let move = is-move c.blocks x y redzone d q e in (
          allocated-open c h.0 y redzone Undefined q refl move.place,
          allocated-closed c h.0 y redzone Undefined q refl move.place h.1,
        )
    carves false h =
        let move = is-move c.blocks x y redzone d q e in
        (allocated-open c h.0 y redzone Undefined q refl move.place, tt)

works : (b : Bool) (function : Hook) (c : Core) → Stands b c → (x y redzone volume : ℕ) (taken : ℕ → ℕ)
    → Stands b (heap_work function c x y redzone volume taken).core
unfolding heap_work
works b Malloc c h x y redzone volume taken = allocates b c h x redzone Undefined refl (place c.blocks x redzone) refl
works b Free c h x y redzone volume taken =
    on b (freed c (released_here c x) volume) _ (sets (freed c (released_here c x) volume) 10 (known 0))
    (releases b c h x volume)
works b Calloc c h x y redzone volume taken =
    allocates b c h (x * y) redzone Defined refl (place c.blocks (x * y) redzone) refl
works b Realloc c h x y redzone volume taken =
    resizes b c h x y redzone volume (resizing c.blocks x y redzone) refl

heap-calls : (b : Bool) (function : Hook) (c : Core) → Stands b c → (next redzone volume : ℕ) (taken : ℕ → ℕ)
    → Stands b (heap_call function c next redzone volume taken).core
unfolding parameters_of
heap-calls b function c h next redzone volume taken =
    let now = tested_from (tested c 17) 10 (heap_parameters function) in
    let done = heap_work function now (argument c 10) (argument c 11) redzone volume taken in
    on b done.core (moved_to done.core next) (goes done.core next)
    (works b function now (on b c now (call-tests c 17 (heap_parameters function)) h) (argument c 10)
    (argument c 11) redzone
    volume taken)

named-calls : (b : Bool) (r : Bool) (function : Hook) (c : Core) → Stands b c → (redzone volume : ℕ) (taken : ℕ → ℕ)
    → Stands b (named_by r function c redzone volume taken).core
unfolding named_by
named-calls b true function c h redzone volume taken =
    let now = tested_from (tested c 1) 10 (heap_parameters function) in
    let done = heap_work function now (argument c 10) (argument c 11) redzone volume taken in
    on b done.core (returned_to (return_address c) done.core)
    (record { blocks = refl; stack = refl; same = λ a low high. refl })
    (works b function now (on b c now (call-tests c 1 (heap_parameters function)) h) (argument c 10)
    (argument c 11) redzone
    volume taken)
named-calls b false function c h redzone volume taken =
    let l = tests c 1 in
    on b c (stopped (tested c 1) Misaligned) (record { blocks = l.blocks; stack = l.stack; same = l.same }) h

-- calls by number --

-- the result of a call, after its tests
answers : (c now : Core) (next n : ℕ) → LeavesHeap c now → LeavesHeap c (moved_to (answered now n) next)
unfolding set_register
answers c now next n l = record { blocks = l.blocks; stack = l.stack; same = l.same }

module _ (b : Bool) (c : Core) (h : Stands b c) (next : ℕ) (terms : Terms) (given : List ℕ) (taken : ℕ → ℕ) where
  abbrev StandsAt : ℕ → Type 0
  StandsAt n = Stands b (call_effect c next (call_of n) terms given taken).core

  abbrev after : List Parameter → Core
  after ps = tested_from (tested c 17) 10 ps

  reads : StandsAt 63
  unfolding call_effect read_call parameters_of
  reads = on b c _ (go (argument c 10 == 0)) h
    where
      go : (t : Bool) → LeavesHeap c (cond t
          (record {
            core = moved_to (answered (stored_core (after read-parameters) (argument c 11) terms.intake.count 0)
                terms.intake.count) next;
            raised = test-errors c read-parameters
                ++ buffer_errors (after read-parameters) ReadBuffer false (argument c 11) (moved_len c);
            made = slice_index given;
            output = [];
          })
          (answer-by (after read-parameters) next (test-errors c read-parameters) (failure ebadf))).core
      go true =
          answers c (stored_core (after read-parameters) (argument c 11) terms.intake.count 0) next terms.intake.count
          (then c (after read-parameters) _ (call-tests c 17 read-parameters)
          (stores (after read-parameters) (argument c 11) terms.intake.count 0))
      go false = answers c (after read-parameters) next (failure ebadf) (call-tests c 17 read-parameters)

  writes : StandsAt 64
  unfolding call_effect write_call parameters_of
  writes = on b c _ (go (is_output (argument c 10)) (has_room c terms.written)) h
    where
      go : (t u : Bool) → LeavesHeap c (cond t (cond u
          (record {
            core = moved_to (answered (after write-parameters) (moved_len c)) next;
            raised = test-errors c write-parameters
                ++ buffer_errors (after write-parameters) WriteBuffer true (argument c 11) (moved_len c);
            made = no_bytes;
            output = bytes_taken taken (moved_len c);
          })
          (answer-by (after write-parameters) next (test-errors c write-parameters) (failure enospc)))
          (answer-by (after write-parameters) next (test-errors c write-parameters) (failure ebadf))).core
      go true true = answers c (after write-parameters) next (moved_len c) (call-tests c 17 write-parameters)
      go true false = answers c (after write-parameters) next (failure enospc) (call-tests c 17 write-parameters)
      go false u = answers c (after write-parameters) next (failure ebadf) (call-tests c 17 write-parameters)

  exits : (p : Parameter) → Stands b (exited (after (p ∷ [])) (argument c 10 % 256))
  exits p =
      let l = call-tests c 17 (p ∷ []) in on b c _ (record { blocks = l.blocks; stack = l.stack; same = l.same }) h

  exit : StandsAt 93
  unfolding call_effect parameters_of
  exit = exits ExitStatus

  exit-group : StandsAt 94
  unfolding call_effect parameters_of
  exit-group = exits ExitGroupStatus

  mallocs : StandsAt 2001
  unfolding call_effect
  mallocs = heap-calls b Malloc c h next terms.redzone terms.volume taken

  frees : StandsAt 2002
  unfolding call_effect
  frees = heap-calls b Free c h next terms.redzone terms.volume taken

  callocs : StandsAt 2003
  unfolding call_effect
  callocs = heap-calls b Calloc c h next terms.redzone terms.volume taken

  reallocs : StandsAt 2004
  unfolding call_effect
  reallocs = heap-calls b Realloc c h next terms.redzone terms.volume taken

  unknown : StandsAt 0
  unfolding call_effect parameters_of
  unknown = on b c _ (answers c (after []) next (failure enosys) (call-tests c 17 [])) h

  calls : (n : ℕ) → StandsAt n
  calls n = elim (cases_eq n 63) [
    | inl e ↦ subst StandsAt (sym e) reads
    | inr p ↦ elim (cases_eq n 64) [
      | inl e ↦ subst StandsAt (sym e) writes
      | inr q ↦ elim (cases_eq n 93) [
        | inl e ↦ subst StandsAt (sym e) exit
        | inr r ↦ elim (cases_eq n 94) [
          | inl e ↦ subst StandsAt (sym e) exit-group
          | inr s ↦ elim (cases_eq n 2001) [
            | inl e ↦ subst StandsAt (sym e) mallocs
            | inr t ↦ elim (cases_eq n 2002) [
              | inl e ↦ subst StandsAt (sym e) frees
              | inr u ↦ elim (cases_eq n 2003) [
                | inl e ↦ subst StandsAt (sym e) callocs
                | inr v ↦ elim (cases_eq n 2004) [
                  | inl e ↦ subst StandsAt (sym e) reallocs
                  | inr w ↦
                      subst (λ call. Stands b (call_effect c next call terms given taken).core)
                      (sym (other n p q r s t u v w)) unknown
                ]
              ]
            ]
          ]
        ]
      ]
    ]
  ]

  -- an atomic instruction
  admitted-left : (atomic : Atomic) (rd rs1 rs2 : ℕ) → LeavesHeap c (admitted c next atomic rd rs1 rs2 taken).core
  unfolding set_register
  admitted-left LoadReserved rd rs1 rs2 =
      let l = tests c rs1 in record { blocks = l.blocks; stack = l.stack; same = l.same }
  admitted-left StoreConditional rd rs1 rs2 =
      let l = go (is_reserved c rs1) in record { blocks = l.blocks; stack = l.stack; same = l.same }
    where
      go : (p : Bool) → LeavesHeap c (cond p (resulting rd 0 (store c next Word rs1 rs2 0))
          (resulting rd 1 (not_stored c next rs1))).core
      go true =
          let l = then c (tested c rs1) _ (tests c rs1) (stores (tested c rs1) (target c rs1 0) 4
          (register (tested c rs1) rs2).undef) in record { blocks = l.blocks; stack = l.stack; same = l.same }
      go false = let l = tests c rs1 in record { blocks = l.blocks; stack = l.stack; same = l.same }
  admitted-left (Updating update) rd rs1 rs2 =
      let l = then c (tested c rs1) _ (tests c rs1) (stores (tested c rs1) (atomic_start c rs1) 4 _) in
      record { blocks = l.blocks; stack = l.stack; same = l.same }

  atomics-left : (atomic : Atomic) (rd rs1 rs2 : ℕ) → LeavesHeap c (atomic_effect c next atomic rd rs1 rs2 taken).core
  unfolding atomic_effect
  atomics-left atomic rd rs1 rs2 = go (admits c rs1) (has_atomics c.isa)
    where
      go : (p q : Bool) → LeavesHeap c (cond p (admitted c next atomic rd rs1 rs2 taken)
          (cond q (raising (stopped (tested c rs1) Misaligned) (value_errors c rs1)) (stops c Illegal))).core
      go true q = admitted-left atomic rd rs1 rs2
      go false true = let l = tests c rs1 in record { blocks = l.blocks; stack = l.stack; same = l.same }
      go false false = record { blocks = refl; stack = refl; same = λ a low high. refl }

  -- one of a control register, a fence of fetches, or a wait for an interrupt
  controls-left : (access : ControlAccess) (rd number : ℕ) (operand : ControlOperand)
      → LeavesHeap c (control_effect c next access rd number operand).core
  unfolding control_effect set_register
  controls-left access rd number operand = go (has_control c access number operand)
    where
      go : (p : Bool) → LeavesHeap c (cond p (results_in (record c {
        controls = controls_after c access number operand;
      }) next rd (control c number)) (stops c Illegal)).core
      go true = record { blocks = refl; stack = refl; same = λ a low high. refl }
      go false = record { blocks = refl; stack = refl; same = λ a low high. refl }

  barrier-left : LeavesHeap c (barrier c next).core
  unfolding barrier
  barrier-left = go (has_controls c.isa)
    where
      go : (p : Bool) → LeavesHeap c (cond p (quiet (moved_to c next)) (stops c Illegal)).core
      go true = record { blocks = refl; stack = refl; same = λ a low high. refl }
      go false = record { blocks = refl; stack = refl; same = λ a low high. refl }

  -- each row
  pub rows : (row : Option Instruction) → Stands b (row_effect c next row terms given taken).core
  unfolding row_effect set_register call_at branch_tested
  rows None = on b c _ (record { blocks = refl; stack = refl; same = λ a low high. refl }) h
  rows (Some (LoadUpper rd imm)) = on b c _ (record { blocks = refl; stack = refl; same = λ a low high. refl }) h
  rows (Some (AddUpper rd imm)) = on b c _ (record { blocks = refl; stack = refl; same = λ a low high. refl }) h
  rows (Some (Jump rd imm)) = on b c _ (links c next _ rd ((c.pc + imm) % 2 ^ 32)) h
  rows (Some (JumpRegister rd rs1 imm)) =
      on b c _ (then c (tested c rs1) _ (tests c rs1) (links (tested c rs1) next _ rd (target c rs1 imm / 2 * 2))) h
  rows (Some (Branch test rs1 rs2 imm)) =
      on b c _ (then c _ _ (branch-tests c (is_undefined c test rs1 rs2) rs1 rs2)
      (branches _ (cond (is_undefined c test rs1 rs2) (defined (defined c rs1) rs2) c) next ((c.pc + imm) % 2 ^ 32))) h
  rows (Some (Load width signed rd rs1 imm)) =
      let l = tests c rs1 in on b c _ (record { blocks = l.blocks; stack = l.stack; same = l.same }) h
  rows (Some (Store width rs1 rs2 imm)) =
      let l = then c (tested c rs1) _ (tests c rs1) (stores (tested c rs1) (target c rs1 imm) (width_len width)
      (register (tested c rs1) rs2).undef) in
      on b c _ (record { blocks = l.blocks; stack = l.stack; same = l.same }) h
  rows (Some (Immediate operation rd rs1 imm)) =
      on b c _ (record { blocks = refl; stack = refl; same = λ a low high. refl }) h
  rows (Some (Registers operation rd rs1 rs2)) =
      on b c _ (record { blocks = refl; stack = refl; same = λ a low high. refl }) h
  rows (Some Fence) = on b c _ (record { blocks = refl; stack = refl; same = λ a low high. refl }) h
  rows (Some CallRow) = calls (argument c 17)
  rows (Some Breakpoint) = on b c _ (record { blocks = refl; stack = refl; same = λ a low high. refl }) h
  rows (Some (insns.LoadReserved rd rs1)) = on b c _ (atomics-left LoadReserved rd rs1 0) h
  rows (Some (insns.StoreConditional rd rs1 rs2)) = on b c _ (atomics-left StoreConditional rd rs1 rs2) h
  rows (Some (insns.Update update rd rs1 rs2)) = on b c _ (atomics-left (Updating update) rd rs1 rs2) h
  rows (Some (insns.Control access rd number operand)) = on b c _ (controls-left access rd number operand) h
  rows (Some insns.Barrier) = on b c _ barrier-left h

none-taken : (c : Core) → LeavesHeap c (unfetched c).core
unfolding unfetched
none-taken c = go (is_running c.status) (is_aligned c.isa c.pc) (fetch_fault c)
  where
    go : (b d : Bool) (o : Option ℕ)
        → LeavesHeap c (cond b (cond d (jump_fault c o) (stops c Misaligned)) (quiet c)).core
    go true true None = as-is c
    go true true (Some n) = record { blocks = refl; stack = refl; same = λ a low high. refl }
    go true false o = record { blocks = refl; stack = refl; same = λ a low high. refl }
    go false d o = as-is c

fault-left : (c : Core) (fault : Option ℕ) → LeavesHeap c (jump_fault c fault).core
fault-left c None = as-is c
fault-left c (Some n) = record { blocks = refl; stack = refl; same = λ a low high. refl }

actions : (b : Bool) (c : Core) → Stands b c → (terms : Terms) (action : Action) (given : List ℕ) (taken : ℕ → ℕ)
    → Stands b (outcome c terms action given taken).core
actions b c h terms (Takes code) given taken =
    let next = next_of c (len_of code) in
    let row = rows b c h next terms given taken (row_of_code code) in
    on b (row_effect c next (row_of_code code) terms given taken).core _
    (rules (row_effect c next (row_of_code code) terms given taken).core (register c 2) row.0) row
actions b c h terms Cut given taken = on b c _ (fault-left c (word_fault c)) h
actions b c h terms (CallsByName function) given taken =
    named-calls b (returns c) function c h terms.redzone terms.volume taken
actions b c h terms Halts given taken = on b c _ (none-taken c) h

pub steps : (b : Bool) (setup : Setup) (s : State) → Stands b s.core → Stands b (exec s setup).core
unfolding exec effect_at outcome_at
steps b setup s h =
    let effect = outcome_at s.core s.bytes s.position (length s.output) setup in
    on b effect.core _ (record { blocks = refl; stack = refl; same = λ a low high. refl })
    (actions b s.core h _ (action_at s.core s.bytes setup.hooks) _ _)

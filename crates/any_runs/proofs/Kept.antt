-- Only a write has the error of a write.
use Rattle.std.proofs.Common.{◌≡◌, ◌⊎◌, ℕ, ◌+◌, ◌==◌, Bool, true, false, cond, refl, sym, ap, ◌∙◌, subst, inl, inr}
use Rattle.std.proofs.Common.{List, [], ◌∷◌, ◌++◌, Option, Some, None, slice_index}
use Rattle.std.proofs.lemmas.Bool.{cases_eq}
use Rattle.error_events.specs.declared.event.Event.{Event}
use Rattle.error_events.specs.declared.kind.Kind.{Kind}
use Rattle.error_events.specs.declared.kind.Kind.TheVariants.{Read, Write, Value, Cond, Param, Free}
use Rattle.error_events.specs.declared.kind.ParameterFault.TheVariants.{Contains, Uninit, Unaddressable}
use Rattle.error_events.specs.declared.parameter.Parameter.{Parameter}
use Rattle.error_events.specs.declared.parameter.Parameter.TheVariants.{ReadBuffer, ExitStatus, ExitGroupStatus}
use Rattle.error_events.specs.declared.parameter.Parameter.TheVariants.{SyscallNumber}
use Rattle.shadow_memory.specs.Shadows.{first_inaccessible, first_bad}
use Rattle.shadow_memory.specs.declared.cells.Bad.{Bad}
use Rattle.instructions.specs.Widths.{width_len}
use Rattle.instructions.specs.declared.instruction.Instruction.{Instruction}
use Rattle.instructions.specs.declared.instruction.Instruction.TheVariants.{LoadUpper, AddUpper, Jump, JumpRegister}
use Rattle.instructions.specs.declared.instruction.Instruction.TheVariants.{Branch, Load, Store, Immediate, Registers}
use Rattle.instructions.specs.declared.instruction.Instruction.TheVariants.{Fence, CallEnvironment as CallRow}
use Rattle.instructions.specs.declared.instruction.Instruction.TheVariants.{Breakpoint, LoadReserved}
use Rattle.instructions.specs.declared.instruction.Instruction.TheVariants.{StoreConditional, Update, Control, Barrier}
use Rattle.instructions.specs.declared.atomic.Atomic.{Atomic}
use Rattle.instructions.specs.declared.atomic.Atomic.TheVariants as atomics
use Rattle.instructions.specs.declared.width.Width.TheVariants.{Word}
use Rattle.guest_elf.specs.declared.hook.Hook.{Hook}
use Rattle.guest_elf.specs.declared.hook.Hook.TheVariants.{Malloc, Free as FreeHook, Calloc, Realloc}
use Rattle.guest_elf.specs.Profiles.{has_atomics, has_controls}
use Rattle.guest_heap.specs.declared.released.Released.{Released}
use Rattle.guest_heap.specs.declared.released.Released.TheVariants.{Done, Nothing, Invalid}
use Rattle.run_values.specs.declared.status.Stop.TheVariants.{Illegal, Misaligned}
use Rattle.guest_machine.specs.State.{Core}
use Rattle.guest_machine.specs.Registers.{tested}
use Rattle.guest_machine.specs.Errors.{event_unless, event_about, here, value_errors, access_errors}
use Rattle.guest_machine.specs.Errors.{parameter_errors, buffer_errors, buffer_event}
use Rattle.guest_machine.specs.Effects.{raising, stopped, stops, store, quiet, moved_to, stored_core, target}
use Rattle.guest_machine.specs.Effects.{results_in}
use Rattle.guest_machine.specs.Calls.{argument, call_at, call_of, errors_from, call_errors, parameters_of}
use Rattle.guest_machine.specs.Calls.{heap_parameters}
use Rattle.guest_machine.specs.Calls.{read_call, failure, ebadf, answers, moved_len, answered, call_tested}
use Rattle.guest_machine.specs.HeapCalls.{heap_call, heap_work, free_errors, released_here, Resizing, Allocates}
use Rattle.guest_machine.specs.HeapCalls.{Refuses}
use Rattle.guest_machine.specs.HeapCalls.{Frees, Keeps, Moves, resizing, resize_errors}
use Rattle.guest_machine.specs.Atomics.{admits, admitted, atomic_effect, is_reserved, resulting, not_stored}
use Rattle.guest_machine.specs.Controls.{control_effect, barrier, has_control}
use Rattle.guest_machine.specs.Exec.{Terms, row_effect, call_effect}
use Rattle.clean_reports.proofs.Rows.{other}
use Rattle.any_runs.proofs.Calls.{read-parameters}
use Rattle.any_runs.proofs.Tests.{after-tests}
use Rattle.guest_machine.specs.Controls.{controls_after, control}
use Rattle.any_runs.specs.Echoes.{is_echo, kept, IsWrite, RowsKept}

-- these errors are all kept
abbrev pub AllKept : List Event → Type 0
AllKept es = kept es ≡ es

pub kept-append : (xs ys : List Event) → kept (xs ++ ys) ≡ kept xs ++ kept ys
unfolding kept
kept-append [] ys = refl
kept-append (x ∷ xs) ys = go (is_echo x.kind) (kept-append xs ys)
  where
    go : (b : Bool) → kept (xs ++ ys) ≡ kept xs ++ kept ys
        → cond b (kept (xs ++ ys)) (x ∷ kept (xs ++ ys)) ≡ cond b (kept xs) (x ∷ kept xs) ++ kept ys
    go true rest = rest
    go false rest = ap (λ zs. x ∷ zs) rest

pub both-kept : (xs ys : List Event) → AllKept xs → AllKept ys → AllKept (xs ++ ys)
both-kept xs ys p q = kept-append xs ys ∙ (λ i. p i ++ q i)

one-kept : (e : Event) → is_echo e.kind ≡ false → AllKept (e ∷ [])
unfolding kept
one-kept e other = ap (λ b. cond b [] (e ∷ [])) other

pub unless-kept : (fine : Bool) (trace : List ℕ) (kind : Kind) → is_echo kind ≡ false
    → AllKept (event_unless fine trace kind)
unfolding event_unless kept one-kept
unless-kept true trace kind other = refl
unless-kept false trace kind other = one-kept _ other

pub about-kept : (c : Core) (kind : Kind) (o : Option ℕ) → is_echo kind ≡ false
    → AllKept (event_about c.stack c.blocks (here c) kind o)
unfolding event_about kept one-kept
about-kept c kind None other = refl
about-kept c kind (Some a) other = one-kept _ other

access-kept : (c : Core) (kind : Kind) (start n : ℕ) → is_echo kind ≡ false → AllKept (access_errors c kind start n)
access-kept c kind start n other = about-kept c kind (first_inaccessible c.shadow start n) other

pub value-kept : (c : Core) (r : ℕ) → AllKept (value_errors c r)
value-kept c r = unless-kept _ _ Value refl

pub from-kept : (c : Core) (r : ℕ) (ps : List Parameter) → AllKept (errors_from c r ps)
unfolding errors_from kept
from-kept c r [] = refl
from-kept c r (p ∷ ps) =
    both-kept (parameter_errors c r p) _ (unless-kept _ _ (Param p Contains) refl) (from-kept (tested c r) (r + 1) ps)

pub tests-kept : (c : Core) (ps : List Parameter)
    → AllKept (parameter_errors c 17 SyscallNumber
    ++ errors_from (tested c 17) 10 ps)
tests-kept c ps = both-kept _ _ (unless-kept _ _ (Param _ Contains) refl) (from-kept (tested c 17) 10 ps)

read-kept : (c : Core) (start n : ℕ) → AllKept (buffer_errors c ReadBuffer false start n)
unfolding buffer_event kept one-kept
read-kept c start n = go (first_bad c.shadow start n false)
  where
    fault : (b : Bool) → is_echo (Param ReadBuffer (cond b Uninit Unaddressable)) ≡ false
    fault true = refl
    fault false = refl

    go : (o : Option Bad) → AllKept (buffer_event c.stack c.blocks (here c) ReadBuffer o)
    go None = refl
    go (Some bad) = one-kept _ (fault bad.accessible)

pub none-kept : AllKept []
unfolding kept
none-kept = refl

free-kept : (c : Core) (released : Released) (x : ℕ) → AllKept (free_errors c released x)
unfolding free_errors none-kept
free-kept c (Done b) x = none-kept
free-kept c Nothing x = none-kept
free-kept c Invalid x = about-kept c Free (Some x) refl

resize-kept : (c : Core) (x : ℕ) (what : Resizing) → AllKept (resize_errors c x what)
unfolding resize_errors none-kept
resize-kept c x Refuses = about-kept c Free (Some x) refl
resize-kept c x Allocates = none-kept
resize-kept c x Frees = none-kept
resize-kept c x Keeps = none-kept
resize-kept c x (Moves b q) = none-kept

pub work-kept : (function : Hook) (c : Core) (x y redzone volume : ℕ) (taken : ℕ → ℕ)
    → AllKept (heap_work function c x y redzone volume taken).raised
unfolding heap_work none-kept
work-kept Malloc c x y redzone volume taken = none-kept
work-kept FreeHook c x y redzone volume taken = free-kept c (released_here c x) x
work-kept Calloc c x y redzone volume taken = none-kept
work-kept Realloc c x y redzone volume taken = resize-kept c x (resizing c.blocks x y redzone)

module _ (c : Core) (next : ℕ) (terms : Terms) (given : List ℕ) (taken : ℕ → ℕ) where
  heap-kept : (function : Hook) → AllKept (heap_call function c next terms.redzone terms.volume taken).raised
  unfolding parameters_of
  heap-kept function = both-kept _ _ (tests-kept c (heap_parameters function)) (work-kept function _ _ _ _ _ taken)

  abbrev CallKept : ℕ → Type 0
  CallKept n = (n ≡ 64) ⊎ AllKept (call_effect c next (call_of n) terms given taken).raised

  read-call-kept : CallKept 63
  unfolding call_effect read_call parameters_of
  read-call-kept = inr (go (argument c 10 == 0))
    where
      go : (b : Bool) → AllKept (cond b
          (record {
            core = moved_to (answered (stored_core
                (call_tested c (call_of 63)) (argument c 11) terms.intake.count 0)
                terms.intake.count) next;
            raised = call_errors c (call_of 63)
                ++ buffer_errors (call_tested c (call_of 63)) ReadBuffer false
                (argument c 11) (moved_len c);
            made = slice_index given;
            output = [];
          })
          (answers c next (call_of 63) (failure ebadf))).raised
      go true =
          both-kept _ _ (tests-kept c read-parameters)
          (read-kept (after-tests c read-parameters) (argument c 11) (moved_len c))
      go false = tests-kept c read-parameters

  plain-kept : (n : ℕ) → (ps : List Parameter)
      → (call_effect c next (call_of n) terms given taken).raised
      ≡ parameter_errors c 17 SyscallNumber
      ++ errors_from (tested c 17) 10 ps → CallKept n
  plain-kept n ps is = inr (subst AllKept (sym is) (tests-kept c ps))

  calls-kept : (n : ℕ) → CallKept n
  unfolding call_effect parameters_of
  calls-kept n = elim (cases_eq n 63) [
    | inl e ↦ subst CallKept (sym e) read-call-kept
    | inr p ↦ elim (cases_eq n 64) [
      | inl e ↦ inl e
      | inr q ↦ elim (cases_eq n 93) [
        | inl e ↦ subst CallKept (sym e) (inr (tests-kept c (ExitStatus ∷ [])))
        | inr r ↦ elim (cases_eq n 94) [
          | inl e ↦ subst CallKept (sym e) (inr (tests-kept c (ExitGroupStatus ∷ [])))
          | inr s ↦ elim (cases_eq n 2001) [
            | inl e ↦ subst CallKept (sym e) (inr (heap-kept Malloc))
            | inr t ↦ elim (cases_eq n 2002) [
              | inl e ↦ subst CallKept (sym e) (inr (heap-kept FreeHook))
              | inr u ↦ elim (cases_eq n 2003) [
                | inl e ↦ subst CallKept (sym e) (inr (heap-kept Calloc))
                | inr v ↦ elim (cases_eq n 2004) [
                  | inl e ↦ subst CallKept (sym e) (inr (heap-kept Realloc))
                  | inr w ↦ like-none (other n p q r s t u v w)
                ]
              ]
            ]
          ]
        ]
      ]
    ]
  ]
    where
      none-so : AllKept (call_effect c next (call_of 0) terms given taken).raised
      none-so = tests-kept c []

      like-none : call_of n ≡ call_of 0 → CallKept n
      like-none e = inr (subst (λ call. AllKept (call_effect c next call terms given taken).raised) (sym e) none-so)

  atomic-kept : (atomic : Atomic) (rd rs1 rs2 : ℕ) → AllKept (atomic_effect c next atomic rd rs1 rs2 taken).raised
  unfolding atomic_effect none-kept
  atomic-kept atomic rd rs1 rs2 = go (admits c rs1) (has_atomics c.isa)
    where
      stored : (p : Bool) → AllKept (cond p (resulting rd 0 (store c next Word rs1 rs2 0))
          (resulting rd 1 (not_stored c next rs1))).raised
      stored true = both-kept _ _ (value-kept c rs1) (access-kept (tested c rs1) (Write 4) (target c rs1 0) 4 refl)
      stored false = value-kept c rs1

      done : (atomic : Atomic) → AllKept (admitted c next atomic rd rs1 rs2 taken).raised
      done atomics.LoadReserved =
          both-kept _ _ (value-kept c rs1) (access-kept (tested c rs1) (Read 4) (target c rs1 0) 4 refl)
      done atomics.StoreConditional = stored (is_reserved c rs1)
      done (atomics.Update update) =
          both-kept _ _ (value-kept c rs1) (both-kept _ _ (access-kept (tested c rs1) (Read 4) (target c rs1 0) 4 refl)
          (access-kept (tested c rs1) (Write 4) (target c rs1 0) 4 refl))

      go : (p has : Bool) → AllKept (cond p (admitted c next atomic rd rs1 rs2 taken)
          (cond has (raising (stopped (tested c rs1) Misaligned) (value_errors c rs1)) (stops c Illegal))).raised
      go true has = done atomic
      go false true = value-kept c rs1
      go false false = none-kept

  -- each row
  rows-kept-here : (row : Option Instruction) → IsWrite c row ⊎ AllKept (row_effect c next row terms given taken).raised
  unfolding row_effect call_at control_effect barrier none-kept
  rows-kept-here None = inr none-kept
  rows-kept-here (Some (LoadUpper rd imm)) = inr none-kept
  rows-kept-here (Some (AddUpper rd imm)) = inr none-kept
  rows-kept-here (Some (Jump rd imm)) = inr none-kept
  rows-kept-here (Some (JumpRegister rd rs1 imm)) = inr (value-kept c rs1)
  rows-kept-here (Some (Branch test rs1 rs2 imm)) = inr (unless-kept _ _ Cond refl)
  rows-kept-here (Some (Load width signed rd rs1 imm)) =
      inr (both-kept _ _ (value-kept c rs1)
      (access-kept (tested c rs1) (Read (width_len width)) (target c rs1 imm) (width_len width) refl))
  rows-kept-here (Some (Store width rs1 rs2 imm)) =
      inr (both-kept _ _ (value-kept c rs1)
      (access-kept (tested c rs1) (Write (width_len width)) (target c rs1 imm) (width_len width) refl))
  rows-kept-here (Some (Immediate operation rd rs1 imm)) = inr none-kept
  rows-kept-here (Some (Registers operation rd rs1 rs2)) = inr none-kept
  rows-kept-here (Some Fence) = inr none-kept
  rows-kept-here (Some CallRow) = elim (calls-kept (argument c 17)) [
    | inl is ↦ inl (refl, is)
    | inr so ↦ inr so
  ]
  rows-kept-here (Some (LoadReserved rd rs1)) = inr (atomic-kept atomics.LoadReserved rd rs1 0)
  rows-kept-here (Some (StoreConditional rd rs1 rs2)) = inr (atomic-kept atomics.StoreConditional rd rs1 rs2)
  rows-kept-here (Some (Update update rd rs1 rs2)) = inr (atomic-kept (atomics.Update update) rd rs1 rs2)
  rows-kept-here (Some (Control access rd number operand)) = inr (go (has_control c access number operand))
    where
      go : (b : Bool) → AllKept (cond b
          (results_in (record c { controls = controls_after c access number operand }) next rd
          (control c number)) (stops c Illegal)).raised
      go true = none-kept
      go false = none-kept
  rows-kept-here (Some Barrier) = inr (go (has_controls c.isa))
    where
      go : (b : Bool) → AllKept (cond b (quiet (moved_to c next)) (stops c Illegal)).raised
      go true = none-kept
      go false = none-kept
  rows-kept-here (Some Breakpoint) = inr none-kept

pub rows-kept : RowsKept
rows-kept core next row terms given taken = rows-kept-here core next terms given taken row

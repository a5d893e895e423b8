-- A step that raises no use touches the same addresses from states that agree where they are defined.
use Rattle.std.proofs.Common.{◌≡◌, ℕ, ◌+◌, ◌%◌, ◌^◌, min, Bool, true, false, cond, refl, sym, ap, ◌∙◌, subst}
use Rattle.std.proofs.Common.{List, [], ◌∷◌, Option, Some, None, ◌==◌, ◌&&◌, nat_le, inl, inr}
use Rattle.std.proofs.lemmas.Bool.{cases_eq}
use Rattle.error_events.specs.declared.kind.Kind.TheVariants.{Value}
use Rattle.instructions.specs.Widths.{width_len}
use Rattle.instructions.specs.Codes.{len_of, row_of_code}
use Rattle.instructions.specs.declared.instruction.Instruction.{Instruction}
use Rattle.instructions.specs.declared.instruction.Instruction.TheVariants.{Load, Store}
use Rattle.instructions.specs.declared.instruction.Instruction.TheVariants.{CallEnvironment as CallRow}
use Rattle.instructions.specs.declared.instruction.Instruction.TheVariants.{LoadReserved, StoreConditional, Update}
use Rattle.instructions.specs.declared.atomic.Atomic.{Atomic}
use Rattle.instructions.specs.declared.atomic.Atomic.TheVariants as atomics
use Rattle.guest_elf.specs.declared.hook.Hook.{Hook}
use Rattle.guest_elf.specs.declared.hook.Hook.TheVariants.{Malloc, Free, Calloc, Realloc}
use Rattle.guest_elf.specs.Profiles.{has_atomics, is_aligned}
use Rattle.run_values.specs.declared.status.Stop.TheVariants.{Misaligned}
use Rattle.run_values.specs.declared.status.Stop.TheVariants.{Illegal}
use Rattle.instructions.specs.declared.width.Width.TheVariants.{Word}
use Rattle.std.proofs.lemmas.Bool.{false≢true}
use Rattle.error_events.specs.declared.parameter.Parameter.TheVariants.{ExitStatus, ExitGroupStatus}
use Rattle.guest_machine.specs.HeapCalls.{heap_call}
use Rattle.guest_machine.specs.State.{Core}
use Rattle.guest_machine.specs.Registers.{tested}
use Rattle.guest_machine.specs.Errors.{value_errors, fetch_errors}
use Rattle.guest_machine.specs.Spans.{span_at}
use Rattle.guest_machine.specs.Effects.{target, next_of, stopped, stops, raising, store}
use Rattle.guest_machine.specs.Calls.{argument, call_at, call_of, heap_parameters, moved_from_start, moved_len}
use Rattle.guest_machine.specs.Calls.{parameters_of}
use Rattle.guest_machine.specs.Calls.{appends, is_output, errors_from}
use Rattle.guest_machine.specs.NamedCalls.{returns, named_by}
use Rattle.guest_machine.specs.Atomics.{admits, admitted, atomic_effect, atomic_reads, atomic_writes, atomic_start}
use Rattle.guest_machine.specs.Atomics.{is_reserved, is_reserved_by, read_if, written_if, resulting, not_stored}
use Rattle.guest_machine.specs.Atomics.{reserving}
use Rattle.guest_machine.specs.Exec.{Terms, Uses, Action, Takes, Cut, CallsByName, Halts, plan, outcome, row_uses}
use Rattle.guest_machine.specs.Exec.{row_effect}
use Rattle.guest_machine.specs.Exec.{call_uses, call_effect, work_uses, heap_uses, named_uses_by, reading, writing}
use Rattle.clean_reports.specs.Uses.{NoUse}
use Rattle.clean_reports.proofs.Registers.{Held, HeldAgree, held-of, swap, IsKnown, AreKnown, same-argument}
use Rattle.clean_reports.proofs.Registers.{left-none, right-none, known-by, tested-same, all-known}
use Rattle.clean_reports.proofs.Calls.{call-known, read-parameters, write-parameters, read-first, write-first}
use Rattle.clean_reports.proofs.HeapCalls.{heap-first, named-first, same-return}
use Rattle.clean_reports.proofs.Rows.{other}

module _ (c : Core) (qs : Held) (a : HeldAgree (held-of c) qs) where
  abbrev d : Core
  d = swap c qs

  target-same : (rs1 imm : ℕ) → IsKnown c rs1 → target c rs1 imm ≡ target d rs1 imm
  unfolding target
  target-same rs1 imm known = ap (λ n. (n + imm) % 2 ^ 32) (same-argument c qs a rs1 known)

  -- atomic instructions

  atomic-known : (next : ℕ) (atomic : Atomic) (rd rs1 rs2 : ℕ) (taken : ℕ → ℕ) → has_atomics c.isa ≡ true
      → NoUse (atomic_effect c next atomic rd rs1 rs2 taken).raised → IsKnown c rs1
  unfolding atomic_effect
  atomic-known next atomic rd rs1 rs2 taken has none = go (admits c rs1) (has_atomics c.isa) has none
    where
      stored : (p : Bool) → NoUse (reserving None (cond p (resulting rd 0 (store c next
          Word rs1 rs2 0))
          (resulting rd 1 (not_stored c next rs1)))).raised → IsKnown c rs1
      stored true clean = known-by c rs1 Value refl (left-none _ _ clean)
      stored false clean = known-by c rs1 Value refl clean

      done : (atomic : Atomic) → NoUse (admitted c next atomic rd rs1 rs2 taken).raised → IsKnown c rs1
      done atomics.LoadReserved clean = known-by c rs1 Value refl (left-none _ _ clean)
      done atomics.StoreConditional clean = stored (is_reserved c rs1) clean
      done (atomics.Update update) clean = known-by c rs1 Value refl (left-none _ _ clean)

      go : (p t : Bool) → t ≡ true
          → NoUse (cond p (admitted c next atomic rd rs1 rs2 taken)
          (cond t (raising (stopped (tested c rs1) Misaligned) (value_errors c rs1))
          (stops c Illegal))).raised → IsKnown c rs1
      go true t e clean = done atomic clean
      go false true e clean = known-by c rs1 Value refl clean
      go false false e clean = absurd (false≢true e)

  abbrev atomic-by : Bool → Atomic → ℕ → Uses
  atomic-by has atomic start = record {
    reads = cond (has && (start % 4 == 0)) (read_if atomic (span_at start 4)) None;
    writes = cond (has && (start % 4 == 0))
        (written_if (is_reserved_by c.reserved start) atomic (span_at start 4)) None;
  }

  atomic-same : (next : ℕ) (atomic : Atomic) (rd rs1 rs2 : ℕ) (taken : ℕ → ℕ)
      → NoUse (atomic_effect c next atomic rd rs1 rs2 taken).raised
      → atomic-by (has_atomics c.isa) atomic (atomic_start c rs1)
      ≡ atomic-by (has_atomics c.isa) atomic (atomic_start d rs1)
  atomic-same next atomic rd rs1 rs2 taken none =
      go (has_atomics c.isa) (λ e. atomic-known next atomic rd rs1 rs2 taken e none)
    where
      go : (has : Bool) → (has ≡ true → IsKnown c rs1)
          → atomic-by has atomic (atomic_start c rs1) ≡ atomic-by has atomic (atomic_start d rs1)
      go true known = ap (atomic-by true atomic) (target-same rs1 0 (known refl))
      go false known = refl

  -- heap calls

  work-same : (function : Hook) (redzone : ℕ) → AreKnown c 10 (heap_parameters function)
      → heap_uses function c redzone ≡ heap_uses function d redzone
  unfolding heap_parameters work_uses
  work-same Malloc redzone known = refl
  work-same Free redzone known = refl
  work-same Calloc redzone known =
      λ i. work_uses Calloc c.blocks (same-argument c qs a 10 known.0 i) (same-argument c qs a 11 known.1.0 i) redzone
  work-same Realloc redzone known =
      λ i. work_uses Realloc c.blocks (same-argument c qs a 10 known.0 i) (same-argument c qs a 11 known.1.0 i) redzone

  -- calls

  module _ (next : ℕ) (terms : Terms) (given : List ℕ) (taken : ℕ → ℕ) where
    abbrev CallSame : ℕ → Type 0
    CallSame n = NoUse (call_effect c next (call_of n) terms given taken).raised
        → IsKnown c 17 × (call_uses c (call_of n) terms ≡ call_uses d (call_of n) terms)

    read-same : CallSame 63
    unfolding call_effect call_uses
    read-same none =
        let known = call-known c read-parameters (read-first c next _ _ none) in
        let x = same-argument c qs a 10 known.1.0 in
        let y = same-argument c qs a 11 known.1.1.0 in (
          known.0,
          λ i. record { reads = None; writes = cond (x i == 0) (Some (span_at (y i) terms.intake.count)) None },
        )

    write-same : CallSame 64
    unfolding call_effect call_uses appends moved_len
    write-same none =
        let known = call-known c write-parameters (write-first c next _ _ none) in
        let x = same-argument c qs a 10 known.1.0 in
        let y = same-argument c qs a 11 known.1.1.0 in
        let z = same-argument c qs a 12 known.1.1.1.0 in
        let moved : moved_len c ≡ moved_len d =
        λ i. moved_from_start c.shadow (y i) (min (z i) c.limits.most_moved) in (
          known.0,
          λ i. record {
            reads = cond (is_output (x i) && nat_le (terms.written + moved i) c.limits.most_output)
                (Some (span_at (y i) (moved i))) None;
            writes = None;
          },
        )

    heap-same : (function : Hook)
        → NoUse (heap_call function c next terms.redzone terms.volume taken).raised
        → IsKnown c 17 × (heap_uses function c terms.redzone ≡ heap_uses function d terms.redzone)
    heap-same function none =
        let known = call-known c (heap_parameters function)
        (heap-first c next function terms.redzone terms.volume taken none) in
        (known.0, work-same function terms.redzone known.1)

    exit-same : CallSame 93
    unfolding call_effect call_uses parameters_of
    exit-same none =
        ((call-known c (ExitStatus ∷ []) none).0, refl)

    group-same : CallSame 94
    unfolding call_effect call_uses parameters_of
    group-same none = (
      (call-known c (ExitGroupStatus ∷ []) none).0,
      refl,
    )

    malloc-same : CallSame 2001
    unfolding call_effect call_uses
    malloc-same none = heap-same Malloc none

    free-same : CallSame 2002
    unfolding call_effect call_uses
    free-same none = heap-same Free none

    calloc-same : CallSame 2003
    unfolding call_effect call_uses
    calloc-same none = heap-same Calloc none

    realloc-same : CallSame 2004
    unfolding call_effect call_uses
    realloc-same none = heap-same Realloc none

    unknown-same : CallSame 0
    unfolding call_effect call_uses parameters_of
    unknown-same none = ((call-known c [] none).0, refl)

    calls-same : (n : ℕ) → CallSame n
    calls-same n = elim (cases_eq n 63) [
      | inl e ↦ subst CallSame (sym e) read-same
      | inr p ↦ elim (cases_eq n 64) [
        | inl e ↦ subst CallSame (sym e) write-same
        | inr q ↦ elim (cases_eq n 93) [
          | inl e ↦ subst CallSame (sym e) exit-same
          | inr r ↦ elim (cases_eq n 94) [
            | inl e ↦ subst CallSame (sym e) group-same
            | inr s ↦ elim (cases_eq n 2001) [
              | inl e ↦ subst CallSame (sym e) malloc-same
              | inr t ↦ elim (cases_eq n 2002) [
                | inl e ↦ subst CallSame (sym e) free-same
                | inr u ↦ elim (cases_eq n 2003) [
                  | inl e ↦ subst CallSame (sym e) calloc-same
                  | inr v ↦ elim (cases_eq n 2004) [
                    | inl e ↦ subst CallSame (sym e) realloc-same
                    | inr w ↦ like-none (other n p q r s t u v w)
                  ]
                ]
              ]
            ]
          ]
        ]
      ]
    ]
      where
        like-none : call_of n ≡ call_of 0 → CallSame n
        like-none e =
            subst (λ call. NoUse (call_effect c next call terms given taken).raised
            → IsKnown c 17 × (call_uses c call terms ≡ call_uses d call terms)) (sym e) unknown-same

    -- each row

    pub row-same : (row : Option Instruction) → NoUse (row_effect c next row terms given taken).raised
        → row_uses c row terms ≡ row_uses d row terms
    unfolding row_effect row_uses call_at atomic_reads atomic_writes admits is_reserved
    row-same None none = refl
    row-same (Some (Load width signed rd rs1 imm)) none =
        ap (λ start. reading (span_at start (width_len width)))
        (target-same rs1 imm (known-by c rs1 Value refl (left-none _ _ none)))
    row-same (Some (Store width rs1 rs2 imm)) none =
        ap (λ start. writing (span_at start (width_len width)))
        (target-same rs1 imm (known-by c rs1 Value refl (left-none _ _ none)))
    row-same (Some CallRow) none =
        let at = calls-same (argument c 17) none in
        at.1 ∙ ap (λ k. call_uses d (call_of k) terms) (same-argument c qs a 17 at.0)
    row-same (Some (LoadReserved rd rs1)) none = atomic-same next atomics.LoadReserved rd rs1 0 taken none
    row-same (Some (StoreConditional rd rs1 rs2)) none =
        atomic-same next atomics.StoreConditional rd rs1 rs2 taken none
    row-same (Some (Update update rd rs1 rs2)) none =
        atomic-same next (atomics.Update update) rd rs1 rs2 taken none
    row-same _ none = refl

  -- calls by name

  named-same : (b : Bool) (function : Hook) (redzone volume : ℕ) (taken : ℕ → ℕ)
      → NoUse (named_by b function c redzone volume taken).raised
      → named_uses_by b function c redzone ≡ named_uses_by b function d redzone
  unfolding named_by named_uses_by
  named-same true function redzone volume taken none =
      let one = known-by c 1 Value refl (left-none _ _ (left-none _ _ none)) in
      let known = all-known c 10 (heap_parameters function)
      (subst (λ now. NoUse (errors_from now 10 (heap_parameters function))) (tested-same c 1 one)
      (right-none (value_errors c 1) _ (left-none _ _ none))) in
      work-same function redzone known
  named-same false function redzone volume taken none = refl

  -- what a step does
  pub plan-same : (action : Action) (terms : Terms) (given : List ℕ) (taken : ℕ → ℕ)
      → NoUse (outcome c terms action given taken).raised → plan c terms action ≡ plan d terms action
  plan-same (Takes code) terms given taken none =
      row-same (next_of c (len_of code)) terms given taken (row_of_code code)
      (right-none (fetch_errors c (len_of code)) _ none)
  plan-same Cut terms given taken none = refl
  plan-same (CallsByName function) terms given taken none =
      let one = named-first (returns c) c function _ _ _ none in
      let same : returns c ≡ returns d = ap (is_aligned c.isa) (same-return c qs a one) in
      named-same (returns c) function terms.redzone terms.volume taken none
      ∙ ap (λ b. named_uses_by b function d terms.redzone) same
  plan-same Halts terms given taken none = refl

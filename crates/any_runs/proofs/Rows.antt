-- Effects with fewer undefined bits, of each row of the instruction table.
use Rattle.std.proofs.Common.{◌≡◌, ℕ, ◌+◌, cond, refl}
use Rattle.std.proofs.Common.{sym, ap, ◌∙◌, subst, [], List, Option, Some, None, ◌==◌, ◌&&◌, nat_le, inl, inr}
use Rattle.std.proofs.lemmas.Bool.{cases_eq, ne_eqb}
use Rattle.instructions.specs.Widths.{width_len}
use Rattle.instructions.specs.declared.instruction.Instruction.{Instruction}
use Rattle.instructions.specs.declared.instruction.Instruction.TheVariants.{LoadUpper, AddUpper, Jump, JumpRegister}
use Rattle.instructions.specs.declared.instruction.Instruction.TheVariants.{Branch, Load, Store, Immediate, Registers}
use Rattle.instructions.specs.declared.instruction.Instruction.TheVariants.{Fence, CallEnvironment as CallRow}
use Rattle.instructions.specs.declared.instruction.Instruction.TheVariants.{Breakpoint, LoadReserved}
use Rattle.instructions.specs.declared.instruction.Instruction.TheVariants.{StoreConditional, Update, Control, Barrier}
use Rattle.instructions.specs.declared.atomic.Atomic.{Atomic}
use Rattle.instructions.specs.declared.atomic.Atomic.TheVariants as atomics
use Rattle.guest_elf.specs.declared.hook.Hook.{Hook}
use Rattle.guest_elf.specs.declared.hook.Hook.TheVariants.{Malloc, Free, Calloc, Realloc}
use Rattle.error_events.specs.declared.parameter.Parameter.TheVariants.{ExitStatus, ExitGroupStatus}
use Rattle.run_values.specs.declared.status.Stop.TheVariants.{Illegal, Break}
use Rattle.guest_machine.specs.State.{Core}
use Rattle.guest_machine.specs.Effects.{stopped}
use Rattle.guest_machine.specs.Spans.{span_at}
use Rattle.guest_machine.specs.Calls.{argument, call_at, call_of, is_heap, parameters_of, appends}
use Rattle.guest_machine.specs.Calls.{is_output}
use Rattle.guest_machine.specs.Atomics.{atomic_reads, atomic_writes, read_if, written_if}
use Rattle.guest_machine.specs.Exec.{Terms, Uses, calls_heap, row_asks, call_asks, row_uses, call_uses, row_effect}
use Rattle.guest_machine.specs.Exec.{call_effect, work_uses, heap_uses, reading, writing}
use Rattle.clean_reports.specs.Uses.{NoUse}
use Rattle.any_runs.proofs.Held.{Held, HeldSharper, held-of, swap, same-argument, moved-too}
use Rattle.any_runs.proofs.Effects.{EffectsSharper, alike, moves, computes, computes-with, uppers, adds, jumps}
use Rattle.any_runs.proofs.Effects.{jumps-to}
use Rattle.any_runs.proofs.Effects.{branches, loads, stores, same-target}
use Rattle.any_runs.proofs.Atomics.{atomics-sharper, start-same, reserved-same, admits-same}
use Rattle.any_runs.proofs.Controls.{barriers-sharper, controls-sharper}
use Rattle.any_runs.proofs.Calls.{reads, writes, exits, unknowns}
use Rattle.any_runs.proofs.HeapCalls.{heap-calls}

-- a number that is none of the eight calls is treated as 0 is (as in clean_reports, Rows)
other : (n : ℕ) → (n ≡ 63 → ⊥) → (n ≡ 64 → ⊥) → (n ≡ 93 → ⊥) → (n ≡ 94 → ⊥) → (n ≡ 2001 → ⊥) → (n ≡ 2002 → ⊥)
    → (n ≡ 2003 → ⊥) → (n ≡ 2004 → ⊥) → call_of n ≡ call_of 0
other n p q r s t u v w =
    rw (
      ne_eqb n 63 p,
      ne_eqb n 64 q,
      ne_eqb n 93 r,
      ne_eqb n 94 s,
      ne_eqb n 2001 t,
      ne_eqb n 2002 u,
      ne_eqb n 2003 v,
      ne_eqb n 2004 w,
    ) refl

module _ (c : Core) (qs : Held) (a : HeldSharper (held-of c) qs) (next : ℕ) where
  abbrev d : Core
  d = swap c qs

  same : (r : ℕ) → argument c r ≡ argument d r
  same r = same-argument c qs a r

  -- the call of a number asks for as much, uses the same bytes, and leaves effects with fewer undefined bits
  record CallSharper (n : ℕ) : Type 0 where
    asks : call_asks c (call_of n) ≡ call_asks d (call_of n)
    uses : (terms : Terms) → call_uses c (call_of n) terms ≡ call_uses d (call_of n) terms
    effect : (terms : Terms) (given : List ℕ) (taken : ℕ → ℕ)
        → NoUse (call_effect c next (call_of n) terms given taken).raised
        → EffectsSharper (call_effect c next (call_of n) terms given taken)
        (call_effect d next (call_of n) terms given taken)

  heap-same : (function : Hook) (redzone : ℕ) → heap_uses function c redzone ≡ heap_uses function d redzone
  heap-same function redzone = λ i. work_uses function c.blocks (same 10 i) (same 11 i) redzone

  read-call : CallSharper 63
  unfolding call_effect call_uses call_asks parameters_of
  read-call = record {
    asks = λ i. cond (same 10 i == 0) (Some (moved-too c qs a i)) None;
    uses = λ terms i. record {
      reads = None;
      writes = cond (same 10 i == 0) (Some (span_at (same 11 i) terms.intake.count)) None;
    };
    effect = λ terms given taken none. reads c qs a next terms.intake.count given none;
  }

  write-call : CallSharper 64
  unfolding call_effect call_uses call_asks appends parameters_of
  write-call = record {
    asks = refl;
    uses = λ terms i. record {
      reads = cond (is_output (same 10 i) && nat_le (terms.written + moved-too c qs a i) c.limits.most_output)
          (Some (span_at (same 11 i) (moved-too c qs a i))) None;
      writes = None;
    };
    effect = λ terms given taken none. writes c qs a next terms.written taken none;
  }

  exit-call : CallSharper 93
  unfolding call_effect call_uses call_asks parameters_of
  exit-call = record {
    asks = refl;
    uses = λ terms. refl;
    effect = λ terms given taken none. exits c qs a next ExitStatus none;
  }

  group-call : CallSharper 94
  unfolding call_effect call_uses call_asks parameters_of
  group-call = record {
    asks = refl;
    uses = λ terms. refl;
    effect = λ terms given taken none. exits c qs a next ExitGroupStatus none;
  }

  malloc-call : CallSharper 2001
  unfolding call_effect call_uses call_asks
  malloc-call = record {
    asks = refl;
    uses = λ terms. heap-same Malloc terms.redzone;
    effect = λ terms given taken none. heap-calls c qs a Malloc terms.redzone terms.volume taken next none;
  }

  free-call : CallSharper 2002
  unfolding call_effect call_uses call_asks
  free-call = record {
    asks = refl;
    uses = λ terms. heap-same Free terms.redzone;
    effect = λ terms given taken none. heap-calls c qs a Free terms.redzone terms.volume taken next none;
  }

  calloc-call : CallSharper 2003
  unfolding call_effect call_uses call_asks
  calloc-call = record {
    asks = refl;
    uses = λ terms. heap-same Calloc terms.redzone;
    effect = λ terms given taken none. heap-calls c qs a Calloc terms.redzone terms.volume taken next none;
  }

  realloc-call : CallSharper 2004
  unfolding call_effect call_uses call_asks
  realloc-call = record {
    asks = refl;
    uses = λ terms. heap-same Realloc terms.redzone;
    effect = λ terms given taken none. heap-calls c qs a Realloc terms.redzone terms.volume taken next none;
  }

  unknown-call : CallSharper 0
  unfolding call_effect call_uses call_asks parameters_of
  unknown-call = record {
    asks = refl;
    uses = λ terms. refl;
    effect = λ terms given taken none. unknowns c qs a next none;
  }

  -- of one number; of any number that is none of the eight, as of 0
  calls : (n : ℕ) → CallSharper n
  calls n = elim (cases_eq n 63) [
    | inl e ↦ subst CallSharper (sym e) read-call
    | inr p ↦ elim (cases_eq n 64) [
      | inl e ↦ subst CallSharper (sym e) write-call
      | inr q ↦ elim (cases_eq n 93) [
        | inl e ↦ subst CallSharper (sym e) exit-call
        | inr r ↦ elim (cases_eq n 94) [
          | inl e ↦ subst CallSharper (sym e) group-call
          | inr s ↦ elim (cases_eq n 2001) [
            | inl e ↦ subst CallSharper (sym e) malloc-call
            | inr t ↦ elim (cases_eq n 2002) [
              | inl e ↦ subst CallSharper (sym e) free-call
              | inr u ↦ elim (cases_eq n 2003) [
                | inl e ↦ subst CallSharper (sym e) calloc-call
                | inr v ↦ elim (cases_eq n 2004) [
                  | inl e ↦ subst CallSharper (sym e) realloc-call
                  | inr w ↦ like-none (other n p q r s t u v w)
                ]
              ]
            ]
          ]
        ]
      ]
    ]
  ]
    where
      like-none : call_of n ≡ call_of 0 → CallSharper n
      like-none e = record {
        asks = subst (λ call. call_asks c call ≡ call_asks d call) (sym e) unknown-call.asks;
        uses = subst (λ call. (terms : Terms) → call_uses c call terms ≡ call_uses d call terms) (sym e)
            unknown-call.uses;
        effect = subst (λ call. (terms : Terms) (given : List ℕ) (taken : ℕ → ℕ)
            → NoUse (call_effect c next call terms given taken).raised
            → EffectsSharper (call_effect c next call terms given taken) (call_effect d next call terms given taken))
            (sym e) unknown-call.effect;
      }

  -- each row --

  pub record RowSharper (row : Option Instruction) : Type 0 where
    pub heap : calls_heap c row ≡ calls_heap d row
    pub asks : row_asks c row ≡ row_asks d row
    pub uses : (terms : Terms) → row_uses c row terms ≡ row_uses d row terms
    pub effect : (terms : Terms) (given : List ℕ) (taken : ℕ → ℕ)
        → NoUse (row_effect c next row terms given taken).raised
        → EffectsSharper (row_effect c next row terms given taken) (row_effect d next row terms given taken)

  call-row : RowSharper (Some CallRow)
  unfolding row_effect row_uses calls_heap row_asks call_at
  call-row =
      let n = argument c 17 in
      let m = argument d 17 in
      let at = calls n in
      record {
        heap = ap (λ k. is_heap (call_of k)) (same 17);
        asks = at.asks ∙ ap (λ k. call_asks d (call_of k)) (same 17);
        uses = λ terms. at.uses terms ∙ ap (λ k. call_uses d (call_of k) terms) (same 17);
        effect = λ terms given taken none.
            subst (λ k. EffectsSharper (call_effect c next (call_of n) terms given taken)
            (call_effect d next (call_of k) terms given taken)) (same 17) (at.effect terms given taken none);
      }

  atomic-same : (atomic : Atomic) (rs1 : ℕ) (terms : Terms)
      → record { reads = atomic_reads c atomic rs1; writes = atomic_writes c atomic rs1 }
      ≡ (let u : Uses = record { reads = atomic_reads d atomic rs1; writes = atomic_writes d atomic rs1 } in u)
  unfolding atomic_reads atomic_writes
  atomic-same atomic rs1 terms = λ i. record {
    reads = cond (admits-same c qs a next rs1 i) (read_if atomic (span_at (start-same c qs a next rs1 i) 4)) None;
    writes = cond (admits-same c qs a next rs1 i)
        (written_if (reserved-same c qs a next rs1 i) atomic (span_at (start-same c qs a next rs1 i) 4)) None;
  }

  pub row-sharper : (row : Option Instruction) → RowSharper row
  unfolding row_effect row_uses calls_heap row_asks
  row-sharper None = record {
    heap = refl;
    asks = refl;
    uses = λ terms. refl;
    effect = λ terms given taken none. alike c qs a next (λ k. stopped k Illegal) [] refl refl;
  }
  row-sharper (Some (LoadUpper rd imm)) = record {
    heap = refl;
    asks = refl;
    uses = λ terms. refl;
    effect = λ terms given taken none. uppers c qs a next rd imm;
  }
  row-sharper (Some (AddUpper rd imm)) = record {
    heap = refl;
    asks = refl;
    uses = λ terms. refl;
    effect = λ terms given taken none. adds c qs a next rd imm;
  }
  row-sharper (Some (Jump rd imm)) = record {
    heap = refl;
    asks = refl;
    uses = λ terms. refl;
    effect = λ terms given taken none. jumps c qs a next rd imm;
  }
  row-sharper (Some (JumpRegister rd rs1 imm)) = record {
    heap = refl;
    asks = refl;
    uses = λ terms. refl;
    effect = λ terms given taken none. jumps-to c qs a next rd rs1 imm none;
  }
  row-sharper (Some (Branch test rs1 rs2 imm)) = record {
    heap = refl;
    asks = refl;
    uses = λ terms. refl;
    effect = λ terms given taken none. branches c qs a next test rs1 rs2 imm none;
  }
  row-sharper (Some (Load width signed rd rs1 imm)) = record {
    heap = refl;
    asks = refl;
    uses = λ terms. ap (λ start. reading (span_at start (width_len width))) (same-target c qs a next rs1 imm);
    effect = λ terms given taken none. loads c qs a next width signed rd rs1 imm taken none;
  }
  row-sharper (Some (Store width rs1 rs2 imm)) = record {
    heap = refl;
    asks = refl;
    uses = λ terms. ap (λ start. writing (span_at start (width_len width))) (same-target c qs a next rs1 imm);
    effect = λ terms given taken none. stores c qs a next width rs1 rs2 imm none;
  }
  row-sharper (Some (Immediate operation rd rs1 imm)) = record {
    heap = refl;
    asks = refl;
    uses = λ terms. refl;
    effect = λ terms given taken none. computes-with c qs a next operation rd rs1 imm;
  }
  row-sharper (Some (Registers operation rd rs1 rs2)) = record {
    heap = refl;
    asks = refl;
    uses = λ terms. refl;
    effect = λ terms given taken none. computes c qs a next operation rd rs1 rs2;
  }
  row-sharper (Some Fence) = record {
    heap = refl;
    asks = refl;
    uses = λ terms. refl;
    effect = λ terms given taken none. moves c qs a next next [];
  }
  row-sharper (Some CallRow) = call-row
  row-sharper (Some (LoadReserved rd rs1)) = record {
    heap = refl;
    asks = refl;
    uses = λ terms. atomic-same atomics.LoadReserved rs1 terms;
    effect = λ terms given taken none. atomics-sharper c qs a next atomics.LoadReserved rd rs1 0 taken none;
  }
  row-sharper (Some (StoreConditional rd rs1 rs2)) = record {
    heap = refl;
    asks = refl;
    uses = λ terms. atomic-same atomics.StoreConditional rs1 terms;
    effect = λ terms given taken none. atomics-sharper c qs a next atomics.StoreConditional rd rs1 rs2 taken none;
  }
  row-sharper (Some (Update update rd rs1 rs2)) = record {
    heap = refl;
    asks = refl;
    uses = λ terms. atomic-same (atomics.Update update) rs1 terms;
    effect = λ terms given taken none. atomics-sharper c qs a next (atomics.Update update) rd rs1 rs2 taken none;
  }
  row-sharper (Some (Control access rd number operand)) = record {
    heap = refl;
    asks = refl;
    uses = λ terms. refl;
    effect = λ terms given taken none. controls-sharper c qs a next access rd number operand;
  }
  row-sharper (Some Barrier) = record {
    heap = refl;
    asks = refl;
    uses = λ terms. refl;
    effect = λ terms given taken none. barriers-sharper c qs a next;
  }
  row-sharper (Some Breakpoint) = record {
    heap = refl;
    asks = refl;
    uses = λ terms. refl;
    effect = λ terms given taken none. alike c qs a next (λ k. stopped k Break) [] refl refl;
  }

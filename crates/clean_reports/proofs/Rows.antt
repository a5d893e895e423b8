-- Effects that agree, of each row of the instruction table.
use Rattle.std.proofs.Common.{◌≡◌, ℕ, ◌^◌, ◌<◌, min, Bool, true, false, cond, refl}
use Rattle.std.proofs.Common.{sym, subst, arith, [], ◌∷◌, length, drop, Option, Some, None}
use Rattle.std.proofs.Common.{slice_index, All, Any, IfSome, ◌==◌, ◌≤◌, ◌-◌, inl, inr}
use Rattle.std.specs.Prelude.{find}
use Rattle.std.specs.Option.{option_map}
use Rattle.std.proofs.Math.Pow.{pow_mono}
use Rattle.std.proofs.lemmas.Bool.{cases_lt, cases_eq, ne_eqb}
use Rattle.std.proofs.lemmas.List.{get_or_past}
use Rattle.std.proofs.lemmas.List.Elements.{All-get_or, All-take, All-drop}
use Rattle.rv_decode.specs.declared.Op.{Op}
use Rattle.rv_decode.specs.Table.{Form, R, I, Shift, S, B, U, J, Bare, Row, rows, has_fixed_bits, with_fields, insn_of}
use Rattle.rv_decode.specs.Table.{insn}
use Rattle.rv_decode.specs.Table.{rows as lines}
use Rattle.rv_decode.specs.declared.Insn.{Insn}
use Rattle.rv_compressed.specs.Table.{expansion}
use Rattle.rv_compressed.specs.Laws.{HasOperands, IsOfLine, IsSigned}
use Rattle.rv_compressed.proofs.Expansions.{expansion-IsOfLine}
use Rattle.instructions.specs.Codes.{row_of_code}
use Rattle.instructions.specs.Instructions.{extension_by, extension_of, if_extension, instruction_by, instruction_of}
use Rattle.instructions.specs.Instructions.{if_row, row_of}
use Rattle.instructions.specs.Instructions.{row_of_half, row_or}
use Rattle.instructions.specs.declared.code.Code.{Code}
use Rattle.instructions.specs.declared.code.Code.TheVariants.{Word, Half}
use Rattle.instructions.specs.declared.instruction.Instruction.{Instruction}
use Rattle.instructions.specs.declared.instruction.Instruction.TheVariants.{LoadUpper, AddUpper, Jump, JumpRegister}
use Rattle.instructions.specs.declared.instruction.Instruction.TheVariants.{Branch, Load, Store, Immediate, Registers}
use Rattle.instructions.specs.declared.instruction.Instruction.TheVariants.{Fence, CallEnvironment as CallRow}
use Rattle.instructions.specs.declared.instruction.Instruction.TheVariants.{Breakpoint, LoadReserved}
use Rattle.instructions.specs.declared.instruction.Instruction.TheVariants.{StoreConditional, Update, Control, Barrier}
use Rattle.instructions.specs.declared.atomic.Atomic.TheVariants as atomics
use Rattle.rv_extensions.specs.Table as Fields
use Rattle.rv_extensions.specs.Table.{extension}
use Rattle.rv_extensions.specs.declared.ExtensionOp.{ExtensionOp}
use Rattle.rv_extensions.specs.declared.ExtensionOp.TheVariants as extensions
use Rattle.guest_elf.specs.declared.hook.Hook.TheVariants.{Malloc, Free, Calloc, Realloc}
use Rattle.error_events.specs.declared.parameter.Parameter.TheVariants.{ExitStatus, ExitGroupStatus}
use Rattle.run_values.specs.declared.span.Span.{Span}
use Rattle.run_values.specs.declared.status.Stop.TheVariants.{Illegal, Break}
use Rattle.guest_machine.specs.State.{Core}
use Rattle.guest_machine.specs.Effects.{Effect}
use Rattle.guest_machine.specs.Calls.{argument, call_at, call_of, is_heap, moved_from_start, moved_len, parameters_of}
use Rattle.guest_machine.proofs.Moving.{moved-small}
use Rattle.guest_machine.specs.Calls.{heap_parameters}
use Rattle.guest_machine.specs.Exec.{Terms, intake_of, left_at, given_at, taken_from, terms_of}
use Rattle.guest_machine.specs.Exec.{calls_heap, row_asks, call_asks, row_uses, call_uses, row_effect, call_effect}
use Rattle.guest_machine.specs.declared.setup.Setup.{Setup}
use Rattle.clean_reports.specs.Agreement.{AreBytes, MemoriesAgree}
use Rattle.clean_reports.specs.Uses.{NoUse}
use Rattle.clean_reports.specs.Heap.{BlocksAreOpen}
use Rattle.clean_reports.specs.Disturbed.{HasBytes}
use Rattle.clean_reports.proofs.Registers.{Held, HeldAgree, held-of, swap, IsKnown, register-agrees, same-argument}
use Rattle.clean_reports.proofs.Effects.{EffectsAgree, moves, halts, computes, computes-with, uppers, adds}
use Rattle.clean_reports.proofs.Effects.{jumps, jumps-to, branches, loads, stores}
use Rattle.clean_reports.proofs.Atomics.{atomics-agree}
use Rattle.clean_reports.proofs.Controls.{IsSmallOperand, barriers-agree, controls-agree}
use Rattle.clean_reports.proofs.Calls.{HasKnown, call-known, read-parameters, write-parameters, reads, writes, exits}
use Rattle.clean_reports.proofs.Calls.{unknowns, read-first, write-first}
use Rattle.clean_reports.proofs.HeapCalls.{heap-calls, heap-first}

-- immediates are words --

-- an immediate that goes into a register or a computation is a word
abbrev pub IsSmall : Instruction → Type 0
IsSmall (LoadUpper rd imm) = imm < 2 ^ 32
IsSmall (Immediate operation rd rs1 imm) = imm < 2 ^ 32
IsSmall (Control access rd number operand) = IsSmallOperand operand
IsSmall _ = Unit {0}

abbrev pub IfSmall : Option Instruction → Type 0
IfSmall None = Unit {0}
IfSmall (Some row) = IsSmall row

small-fields : (form : Form) (op : Op) (word : ℕ) → (with_fields form op word).imm < 2 ^ 32
small-fields R op word = omega arith
small-fields I op word = omega arith
small-fields Shift op word = omega arith
small-fields S op word = omega arith
small-fields B op word = omega arith
small-fields U op word = omega arith
small-fields J op word = omega arith
small-fields Bare op word = omega arith

small-by : (op : Op) (rd rs1 rs2 imm : ℕ) → imm < 2 ^ 32 → IsSmall (instruction_by op rd rs1 rs2 imm)
small-by Op.Lui rd rs1 rs2 imm h = h
small-by Op.Addi rd rs1 rs2 imm h = h
small-by Op.Slti rd rs1 rs2 imm h = h
small-by Op.Sltiu rd rs1 rs2 imm h = h
small-by Op.Xori rd rs1 rs2 imm h = h
small-by Op.Ori rd rs1 rs2 imm h = h
small-by Op.Andi rd rs1 rs2 imm h = h
small-by Op.Slli rd rs1 rs2 imm h = h
small-by Op.Srli rd rs1 rs2 imm h = h
small-by Op.Srai rd rs1 rs2 imm h = h
small-by _ rd rs1 rs2 imm h = tt

-- and of the table of extensions
small-uimm : (form : Fields.Form) (op : ExtensionOp) (word : ℕ) → (Fields.with_fields form op word).uimm < 2 ^ 32
small-uimm Fields.Load op word = omega arith
small-uimm Fields.Update op word = omega arith
small-uimm Fields.Control op word = omega arith
small-uimm Fields.Immediate op word = omega arith
small-uimm Fields.Bare op word = omega arith

extension-by-small : (op : ExtensionOp) (csr rd rs1 rs2 uimm : ℕ) → uimm < 2 ^ 32
    → IsSmall (extension_by op csr rd rs1 rs2 uimm)
extension-by-small extensions.Csrrwi csr rd rs1 rs2 uimm h = h
extension-by-small extensions.Csrrsi csr rd rs1 rs2 uimm h = h
extension-by-small extensions.Csrrci csr rd rs1 rs2 uimm h = h
extension-by-small _ csr rd rs1 rs2 uimm h = tt

extension-small : (word : ℕ) → IfSmall (if_extension (extension word))
unfolding extension extension_of
extension-small word = go (find (Fields.has_fixed_bits word) Fields.rows)
  where
    go : (found : Option Fields.Row)
        → IfSmall (if_extension (option_map (λ row. Fields.extension_of row word) found))
    go None = tt
    go (Some row) =
        let e = Fields.extension_of row word in
        extension-by-small e.op e.csr e.rd e.rs1 e.rs2 e.uimm (small-uimm row.form row.op word)

row-small : (word : ℕ) → IfSmall (row_of word)
unfolding row_of insn instruction_of
row-small word = go (find (has_fixed_bits word) rows)
  where
    go : (found : Option Row)
        → IfSmall (row_or (if_row (option_map (λ row. insn_of row word) found)) (if_extension (extension word)))
    go None = extension-small word
    go (Some row) =
        let i = insn_of row word in small-by i.op i.rd i.rs1 i.rs2 i.imm (small-fields row.form row.op word)

-- an immediate of an instruction that a half stands for is less than 2^32
small-signed : (width n : ℕ) → width ≤ 32 → IsSigned width n → n < 2 ^ 32
small-signed width n few (inl low) =
    let less : 2 ^ (width - 1) ≤ 2 ^ 32 = pow_mono {i = width - 1} {j = 32} (omega arith) in omega arith
small-signed width n few (inr high) = high.1

small-operands : (form : Form) (i : Insn) → HasOperands form i → i.imm < 2 ^ 32
small-operands R i h = omega arith
small-operands I i h = small-signed 12 i.imm (omega arith) h.1
small-operands Shift i h = let few : i.imm < 32 = h.1 in omega arith
small-operands S i h = small-signed 12 i.imm (omega arith) h.1
small-operands B i h = small-signed 13 i.imm (omega arith) h.1
small-operands U i h = h.2
small-operands J i h = small-signed 21 i.imm (omega arith) h.2
small-operands Bare i h = let none : i.imm ≡ 0 = h.3 in omega arith

small-line : (i : Insn) → Any (IsOfLine i) lines → i.imm < 2 ^ 32
small-line i (k, line, within, at, (op, operands, registers)) = small-operands line.form i operands

half-small : (half : ℕ) → IfSmall (row_of_half half)
unfolding row_of_half instruction_of
half-small half = go (expansion half) (expansion-IsOfLine half)
  where
    go : (found : Option Insn) → IfSome found (λ i. Any (IsOfLine i) lines) → IfSmall (if_row found)
    go None any = tt
    go (Some i) any = small-by i.op i.rd i.rs1 i.rs2 i.imm (small-line i any)

pub code-small : (code : Code) → IfSmall (row_of_code code)
code-small (Word word) = row-small word
code-small (Half half) = half-small half

-- the bytes that a read is given --

pub given-bytes : (position n : ℕ) (setup : Setup) → HasBytes setup → AreBytes (slice_index (given_at position n setup))
given-bytes position n setup small i =
    let xs = given_at position n setup in
    let all : All (λ byte. byte < 2 ^ 8) xs =
    All-take (λ byte. byte < 2 ^ 8) n (drop position setup.input)
    (All-drop (λ byte. byte < 2 ^ 8) position setup.input small) in
    elim (cases_lt i (length xs)) [
      | inl within ↦ All-get_or (λ byte. byte < 2 ^ 8) xs i 0 within all
      | inr past ↦ subst (λ n. n < 2 ^ 8) (sym (get_or_past xs i 0 past)) (omega arith)
    ]

-- a number that is none of the eight calls is treated as 0 is
pub other : (n : ℕ) → (n ≡ 63 → ⊥) → (n ≡ 64 → ⊥) → (n ≡ 93 → ⊥) → (n ≡ 94 → ⊥) → (n ≡ 2001 → ⊥) → (n ≡ 2002 → ⊥)
    → (n ≡ 2003 → ⊥) → (n ≡ 2004 → ⊥) → call_of n ≡ call_of 0
other n p q r s t u v w =
    rw (
      ne_eqb n 63 p,
      ne_eqb n 64 q,
      ne_eqb n 93 r,
      ne_eqb n 94 s,
      ne_eqb n 2001 t,
      ne_eqb n 2002 u,
      ne_eqb n 2003 v,
      ne_eqb n 2004 w,
    ) refl

-- effects agree, and the two steps see the same terms and make a heap call or none
pub record BothAgree (f g : ℕ → ℕ) (p q : Bool) (x y : Terms) (u v : Option Span) (e h : Effect) : Type 0 where
  pub heap : p ≡ q
  pub terms : x ≡ y
  pub effects : EffectsAgree f g u v e h

module _ (c : Core) (qs : Held) (a : HeldAgree (held-of c) qs) (f g : ℕ → ℕ)
    (m : MemoriesAgree c.shadow f g) (opened : BlocksAreOpen c) (position written : ℕ) (setup : Setup)
    (bytes : HasBytes setup) (next : ℕ) (fits : next < 2 ^ 32) where
  -- the terms and the effect of the call of a number
  abbrev call-terms : Core → ℕ → Terms
  call-terms d n = terms_of (is_heap (call_of n)) (call_asks d (call_of n)) position written setup

  abbrev call-leaves : Core → ℕ → (ℕ → ℕ) → Effect
  call-leaves d n h =
      let terms = call-terms d n in
      call_effect d next (call_of n) terms (given_at position terms.intake.count setup)
      (taken_from h (call_uses d (call_of n) terms).reads)

  abbrev CallsAgree : ℕ → ℕ → Type 0
  CallsAgree n k =
      BothAgree f g (is_heap (call_of n)) (is_heap (call_of k)) (call-terms c n) (call-terms (swap c qs) k)
      (call_uses c (call_of n) (call-terms c n)).writes
      (call_uses (swap c qs) (call_of k) (call-terms (swap c qs) k)).writes (call-leaves c n f)
      (call-leaves (swap c qs) k g)

  few-given : (b : Bool) → (intake_of (cond b (Some (moved_len c)) None) (left_at position setup)).count < 2 ^ 32
  few-given true = let small = moved-small c (register-agrees c qs a 12).one in omega arith
  few-given false = omega arith

  read-terms : HasKnown c read-parameters → call-terms c 63 ≡ call-terms (swap c qs) 63
  unfolding call_asks moved_len
  read-terms known =
      let x = same-argument c qs a 10 known.1.0 in
      let y = same-argument c qs a 11 known.1.1.0 in
      let z = same-argument c qs a 12 known.1.1.1.0 in
      λ i. terms_of false (cond (x i == 0)
      (Some (moved_from_start c.shadow (y i) (min (z i) c.limits.most_moved))) None) position written setup

  read-agrees : NoUse (call-leaves c 63 f).raised → IsKnown c 17 × CallsAgree 63 63
  unfolding call_effect call_uses call_asks parameters_of
  read-agrees none =
      let n = (call-terms c 63).intake.count in
      let known = call-known c read-parameters (read-first c next n _ none) in
      let same = read-terms known in
      let at = reads c qs a f g m next n (given_at position n setup) (few-given (argument c 10 == 0))
      (given-bytes position n setup bytes) none in (
        known.0,
        record {
          heap = refl;
          terms = same;
          effects = subst (λ (t : Terms). EffectsAgree f g (call_uses c (call_of 63) (call-terms c 63)).writes
              (call_uses (swap c qs) (call_of 63) t).writes (call-leaves c 63 f)
              (call_effect (swap c qs) next (call_of 63) t (given_at position t.intake.count setup)
              (taken_from g (call_uses (swap c qs) (call_of 63) t).reads))) same at;
        },
      )

  write-agrees : NoUse (call-leaves c 64 f).raised → IsKnown c 17 × CallsAgree 64 64
  unfolding call_effect call_uses call_asks
  write-agrees none = (
    (call-known c write-parameters (write-first c next written _ none)).0,
    record { heap = refl; terms = refl; effects = writes c qs a f g m next written none },
  )

  exit-agrees : NoUse (call-leaves c 93 f).raised → IsKnown c 17 × CallsAgree 93 93
  unfolding call_effect call_uses call_asks parameters_of
  exit-agrees none = (
    (call-known c (ExitStatus ∷ []) none).0,
    record
        { heap = refl; terms = refl; effects = exits c qs a f g m next ExitStatus none },
  )

  group-agrees : NoUse (call-leaves c 94 f).raised → IsKnown c 17 × CallsAgree 94 94
  unfolding call_effect call_uses call_asks parameters_of
  group-agrees none = (
    (call-known c (ExitGroupStatus ∷ []) none).0,
    record
        { heap = refl; terms = refl; effects = exits c qs a f g m next ExitGroupStatus none },
  )

  malloc-agrees : NoUse (call-leaves c 2001 f).raised → IsKnown c 17 × CallsAgree 2001 2001
  unfolding call_effect call_uses call_asks
  malloc-agrees none = (
    (call-known c (heap_parameters Malloc) (heap-first c next Malloc setup.redzone setup.volume _ none)).0,
    record {
      heap = refl;
      terms = refl;
      effects = heap-calls c qs a f g m opened Malloc setup.redzone setup.volume next none;
    },
  )

  free-agrees : NoUse (call-leaves c 2002 f).raised → IsKnown c 17 × CallsAgree 2002 2002
  unfolding call_effect call_uses call_asks
  free-agrees none = (
    (call-known c (heap_parameters Free) (heap-first c next Free setup.redzone setup.volume _ none)).0,
    record {
      heap = refl;
      terms = refl;
      effects = heap-calls c qs a f g m opened Free setup.redzone setup.volume next none;
    },
  )

  calloc-agrees : NoUse (call-leaves c 2003 f).raised → IsKnown c 17 × CallsAgree 2003 2003
  unfolding call_effect call_uses call_asks
  calloc-agrees none = (
    (call-known c (heap_parameters Calloc) (heap-first c next Calloc setup.redzone setup.volume _ none)).0,
    record {
      heap = refl;
      terms = refl;
      effects = heap-calls c qs a f g m opened Calloc setup.redzone setup.volume next none;
    },
  )

  realloc-agrees : NoUse (call-leaves c 2004 f).raised → IsKnown c 17 × CallsAgree 2004 2004
  unfolding call_effect call_uses call_asks
  realloc-agrees none = (
    (call-known c (heap_parameters Realloc) (heap-first c next Realloc setup.redzone setup.volume _ none)).0,
    record {
      heap = refl;
      terms = refl;
      effects = heap-calls c qs a f g m opened Realloc setup.redzone setup.volume next none;
    },
  )

  unknown-agrees : NoUse (call-leaves c 0 f).raised → IsKnown c 17 × CallsAgree 0 0
  unfolding call_effect call_uses call_asks parameters_of
  unknown-agrees none =
      ((call-known c [] none).0, record { heap = refl; terms = refl; effects = unknowns c qs a f g m next none })

  -- of one number; of any number that is none of the eight, as of 0
  abbrev AgreesAt : ℕ → Type 0
  AgreesAt n = NoUse (call-leaves c n f).raised → IsKnown c 17 × CallsAgree n n

  calls : (n : ℕ) → AgreesAt n
  calls n = elim (cases_eq n 63) [
    | inl e ↦ subst AgreesAt (sym e) read-agrees
    | inr p ↦ elim (cases_eq n 64) [
      | inl e ↦ subst AgreesAt (sym e) write-agrees
      | inr q ↦ elim (cases_eq n 93) [
        | inl e ↦ subst AgreesAt (sym e) exit-agrees
        | inr r ↦ elim (cases_eq n 94) [
          | inl e ↦ subst AgreesAt (sym e) group-agrees
          | inr s ↦ elim (cases_eq n 2001) [
            | inl e ↦ subst AgreesAt (sym e) malloc-agrees
            | inr t ↦ elim (cases_eq n 2002) [
              | inl e ↦ subst AgreesAt (sym e) free-agrees
              | inr u ↦ elim (cases_eq n 2003) [
                | inl e ↦ subst AgreesAt (sym e) calloc-agrees
                | inr v ↦ elim (cases_eq n 2004) [
                  | inl e ↦ subst AgreesAt (sym e) realloc-agrees
                  | inr w ↦ like-none (other n p q r s t u v w)
                ]
              ]
            ]
          ]
        ]
      ]
    ]
  ]
    where
      like-none : call_of n ≡ call_of 0 → AgreesAt n
      like-none e =
          subst
          (λ call. NoUse (call_effect c next call (terms_of (is_heap call) (call_asks c call) position written setup)
          (given_at position (terms_of (is_heap call) (call_asks c call) position written setup).intake.count setup)
          (taken_from f (call_uses c call
          (terms_of (is_heap call) (call_asks c call) position written setup)).reads)).raised
          → IsKnown c 17 × BothAgree f g (is_heap call) (is_heap call)
          (terms_of (is_heap call) (call_asks c call) position written setup)
          (terms_of (is_heap call) (call_asks (swap c qs) call) position written setup)
          (call_uses c call (terms_of (is_heap call) (call_asks c call) position written setup)).writes
          (call_uses (swap c qs) call
          (terms_of (is_heap call) (call_asks (swap c qs) call) position written setup)).writes
          (call_effect c next call (terms_of (is_heap call) (call_asks c call) position written setup)
          (given_at position (terms_of (is_heap call) (call_asks c call) position written setup).intake.count setup)
          (taken_from f (call_uses c call (terms_of (is_heap call) (call_asks c call) position written setup)).reads))
          (call_effect (swap c qs) next call
          (terms_of (is_heap call) (call_asks (swap c qs) call) position written setup)
          (given_at position (terms_of (is_heap call) (call_asks (swap c qs) call) position written setup).intake.count
          setup) (taken_from g (call_uses (swap c qs) call
          (terms_of (is_heap call) (call_asks (swap c qs) call) position written setup)).reads))) (sym e) unknown-agrees

  row-calls : NoUse (call-leaves c (argument c 17) f).raised → CallsAgree (argument c 17) (argument (swap c qs) 17)
  row-calls none =
      let at = calls (argument c 17) none in
      subst (λ k. CallsAgree (argument c 17) k) (same-argument c qs a 17 at.0) at.1

  -- each row --

  abbrev row-terms : Core → Option Instruction → Terms
  row-terms d row = terms_of (calls_heap d row) (row_asks d row) position written setup

  abbrev row-leaves : Core → Option Instruction → (ℕ → ℕ) → Effect
  row-leaves d row h =
      let terms = row-terms d row in
      row_effect d next row terms (given_at position terms.intake.count setup)
      (taken_from h (row_uses d row terms).reads)

  abbrev RowsAgree : Option Instruction → Type 0
  RowsAgree row =
      BothAgree f g (calls_heap c row) (calls_heap (swap c qs) row) (row-terms c row) (row-terms (swap c qs) row)
      (row_uses c row (row-terms c row)).writes
      (row_uses (swap c qs) row (row-terms (swap c qs) row)).writes (row-leaves c row f) (row-leaves (swap c qs) row g)

  pub row-agrees : (row : Option Instruction) → IfSmall row → NoUse (row-leaves c row f).raised → RowsAgree row
  unfolding row_effect row_uses calls_heap row_asks call_at
  row-agrees None small none = record { heap = refl; terms = refl; effects = halts c qs a f g m next fits Illegal [] }
  row-agrees (Some (LoadUpper rd imm)) small none =
      record { heap = refl; terms = refl; effects = uppers c qs a f g m next fits rd imm small }
  row-agrees (Some (AddUpper rd imm)) small none = record
      { heap = refl; terms = refl; effects = adds c qs a f g m next fits rd imm }
  row-agrees (Some (Jump rd imm)) small none =
      record { heap = refl; terms = refl; effects = jumps c qs a f g m next fits rd imm }
  row-agrees (Some (JumpRegister rd rs1 imm)) small none =
      record { heap = refl; terms = refl; effects = jumps-to c qs a f g m next fits rd rs1 imm none }
  row-agrees (Some (Branch test rs1 rs2 imm)) small none =
      record { heap = refl; terms = refl; effects = branches c qs a f g m next fits test rs1 rs2 imm none }
  row-agrees (Some (Load width signed rd rs1 imm)) small none =
      record { heap = refl; terms = refl; effects = loads c qs a f g m next fits width signed rd rs1 imm none }
  row-agrees (Some (Store width rs1 rs2 imm)) small none =
      record { heap = refl; terms = refl; effects = stores c qs a f g m next fits width rs1 rs2 imm none }
  row-agrees (Some (Immediate operation rd rs1 imm)) small none =
      record { heap = refl; terms = refl; effects = computes-with c qs a f g m next fits operation rd rs1 imm small }
  row-agrees (Some (Registers operation rd rs1 rs2)) small none =
      record { heap = refl; terms = refl; effects = computes c qs a f g m next fits operation rd rs1 rs2 }
  row-agrees (Some Fence) small none = record
      { heap = refl; terms = refl; effects = moves c qs a f g m next fits next [] }
  row-agrees (Some CallRow) small none = row-calls none
  row-agrees (Some (LoadReserved rd rs1)) small none = record {
    heap = refl;
    terms = refl;
    effects = atomics-agree c qs a f g m next fits atomics.LoadReserved rd rs1 0 none;
  }
  row-agrees (Some (StoreConditional rd rs1 rs2)) small none = record {
    heap = refl;
    terms = refl;
    effects = atomics-agree c qs a f g m next fits atomics.StoreConditional rd rs1 rs2 none;
  }
  row-agrees (Some (Update update rd rs1 rs2)) small none = record {
    heap = refl;
    terms = refl;
    effects = atomics-agree c qs a f g m next fits (atomics.Update update) rd rs1 rs2 none;
  }
  row-agrees (Some (Control access rd number operand)) small none = record {
    heap = refl;
    terms = refl;
    effects = controls-agree c qs a f g m next fits access rd number operand small;
  }
  row-agrees (Some Barrier) small none =
      record { heap = refl; terms = refl; effects = barriers-agree c qs a f g m next fits }
  row-agrees (Some Breakpoint) small none =
      record { heap = refl; terms = refl; effects = halts c qs a f g m next fits Break [] }

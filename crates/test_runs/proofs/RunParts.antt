-- Runs without marks: parts of them one after another, and what is the same in all of a part.
use Rattle.std.proofs.Common.{◌≡◌, ℕ, zero, suc, ◌+◌, ◌<◌, ◌==◌, Bool, true, false, cond, not, ◌||◌, List, []}
use Rattle.std.proofs.Common.{◌∷◌, ◌++◌}
use Rattle.std.proofs.Common.{refl, ap, sym, subst, ◌∙◌, arith, add-zero, append-nil, drop, length, Option, Some, None}
use Rattle.std.proofs.Math.Seq.{drop-length}
use Rattle.test_runs.specs.Executions.{calls_of, needs_of, open_after, part_to, piece_to, written_to}
use Rattle.instructions.specs.declared.instruction.Instruction.{Instruction}
use Rattle.instructions.specs.declared.instruction.Instruction.TheVariants as rows
use Rattle.unknown_calls.specs.UnknownCalls.{after_maybe}
use Rattle.guest_machine.specs.Calls.{argument}
use Rattle.guest_machine.specs.State.{Core, State}
use Rattle.guest_machine.specs.Exec.{exec}
use Rattle.guest_machine.specs.Run.{pre, after_marks}
use Rattle.guest_machine.specs.Streams.{calls_out, row_at, refused_writes, refuses_write, unknown_call, unknown_row}
use Rattle.guest_machine.specs.Streams.{needs_limits, needs_limits_row, IsQuietFor, Rests}
use Rattle.guest_machine.specs.Streams.{SameStreams, rested}
use Rattle.guest_machine.specs.Streams.{OnlyCallsSpeak, StaysAtRest}
use Rattle.guest_machine.specs.declared.setup.Setup.{Setup}

pub none-yet : (s : State) (setup : Setup) → pre s setup [] 0 ≡ s
unfolding pre
none-yet s setup = refl

pub one-more : (s : State) (setup : Setup) (n : ℕ) → pre s setup [] (suc n) ≡ exec (pre s setup [] n) setup
unfolding pre after_marks
one-more s setup n = refl

-- a run from a state of a run goes on with it
pub joined : (s : State) (setup : Setup) (n k : ℕ) → pre (pre s setup [] n) setup [] k ≡ pre s setup [] (n + k)
joined s setup n zero = none-yet (pre s setup [] n) setup ∙ ap (pre s setup []) (sym (add-zero n))
joined s setup n (suc k) =
    let next : suc (n + k) ≡ n + suc k = omega arith in
    one-more (pre s setup [] n) setup k ∙ ap (λ t. exec t setup) (joined s setup n k) ∙ sym (one-more s setup (n + k))
    ∙ ap (pre s setup []) next

-- ---- input and output that stay the same

pub same-self : (s : State) → SameStreams s s
same-self s = record { position = refl; end_seen = refl; output = refl }

same-on : (s t u : State) → SameStreams s t → SameStreams t u → SameStreams s u
same-on s t u one two = record {
  position = one.position ∙ two.position;
  end_seen = one.end_seen ∙ two.end_seen;
  output = one.output ∙ two.output;
}

none-refused : (start : State) (setup : Setup) → refused_writes start setup 0 ≡ 0
unfolding refused_writes
none-refused start setup = refl

one-refused : (start : State) (setup : Setup) (n : ℕ) → refused_writes start setup (suc n)
    ≡ refused_writes start setup n + cond (refuses_write (pre start setup [] n) setup) 1 0
unfolding refused_writes
one-refused start setup n = refl

pub refused-first : (start : State) (setup : Setup) → refused_writes start setup 0 ≡ 0
refused-first start setup = none-refused start setup

pub refused-next : (start : State) (setup : Setup) (n : ℕ) (b : Bool) → b ≡ refuses_write (pre start setup [] n) setup
    → refused_writes start setup (n + 1) ≡ refused_writes start setup n + cond b 1 0
refused-next start setup n b is =
    let next : n + 1 ≡ suc n = omega arith in
    ap (refused_writes start setup) next ∙ one-refused start setup n
    ∙ ap (λ b. refused_writes start setup n + cond b 1 0) (sym is)

-- ---- what is written

pub none-written : (start : State) (setup : Setup) (d : ℕ) → written_to start setup d 0 ≡ []
unfolding written_to
none-written start setup d = refl

pub one-written : (start : State) (setup : Setup) (d n : ℕ) → written_to start setup d (suc n)
    ≡ written_to start setup d n ++ piece_to (pre start setup [] n) setup d
unfolding written_to
one-written start setup d n = refl

pub written-next : (start : State) (setup : Setup) (d n : ℕ) → written_to start setup d (n + 1)
    ≡ written_to start setup d n ++ piece_to (pre start setup [] n) setup d
written-next start setup d n =
    let next : n + 1 ≡ suc n = omega arith in ap (written_to start setup d) next ∙ one-written start setup d n

pub no-part : (b : Bool) → ◌≡◌ {A = List ℕ} (cond b [] []) []
no-part true = refl
no-part false = refl

-- a step that leaves the output writes nothing
pub silent-piece : (s : State) (setup : Setup) (d : ℕ) → s.output ≡ (exec s setup).output → piece_to s setup d ≡ []
unfolding piece_to
silent-piece s setup d same =
    ap (λ xs. part_to (argument s.core 10) d (drop (length s.output) xs)) (sym same)
    ∙ ap (part_to (argument s.core 10) d) (drop-length s.output) ∙ no-part (argument s.core 10 == d)

pub open-none : (was : Bool) → open_after was [] ≡ was
unfolding open_after
open-none was = refl

pub open-append : (xs ys : List ℕ) (was : Bool) → open_after was (xs ++ ys) ≡ open_after (open_after was xs) ys
unfolding open_after
open-append [] ys was = refl
open-append (x ∷ xs) ys was = open-append xs ys (not (x == 10))

-- ---- calls that aren't known

pub none-unknown : (start : State) (setup : Setup) → calls_of start setup 0 ≡ []
unfolding calls_of
none-unknown start setup = refl

pub one-unknown : (start : State) (setup : Setup) (n : ℕ) → calls_of start setup (suc n)
    ≡ after_maybe (calls_of start setup n) (unknown_call (pre start setup [] n) setup)
unfolding calls_of
one-unknown start setup n = refl

pub unknown-next : (start : State) (setup : Setup) (n : ℕ) (number : Option ℕ)
    → number ≡ unknown_call (pre start setup [] n) setup
    → calls_of start setup (n + 1) ≡ after_maybe (calls_of start setup n) number
unknown-next start setup n number is =
    let next : n + 1 ≡ suc n = omega arith in
    ap (calls_of start setup) next ∙ one-unknown start setup n
    ∙ ap (after_maybe (calls_of start setup n)) (sym is)

quiet-row : (core : Core) (row : Option Instruction) → calls_out row ≡ false → unknown_row core row ≡ None
unfolding calls_out unknown_row
quiet-row core None h = refl
quiet-row core (Some (rows.LoadUpper rd imm)) h = refl
quiet-row core (Some (rows.AddUpper rd imm)) h = refl
quiet-row core (Some (rows.Jump rd imm)) h = refl
quiet-row core (Some (rows.JumpRegister rd rs1 imm)) h = refl
quiet-row core (Some (rows.Branch test rs1 rs2 imm)) h = refl
quiet-row core (Some (rows.Load width signed rd rs1 imm)) h = refl
quiet-row core (Some (rows.Store width rs1 rs2 imm)) h = refl
quiet-row core (Some (rows.Immediate operation rd rs1 imm)) h = refl
quiet-row core (Some (rows.Registers operation rd rs1 rs2)) h = refl
quiet-row core (Some rows.Fence) h = refl
quiet-row core (Some rows.CallEnvironment) h = cc
quiet-row core (Some rows.Breakpoint) h = refl
quiet-row core (Some (rows.LoadReserved rd rs1)) h = refl
quiet-row core (Some (rows.StoreConditional rd rs1 rs2)) h = refl
quiet-row core (Some (rows.Update update rd rs1 rs2)) h = refl
quiet-row core (Some (rows.Control access rd number operand)) h = refl
quiet-row core (Some rows.Barrier) h = refl

quiet-call : (s : State) (setup : Setup) → calls_out (row_at s setup) ≡ false → unknown_call s setup ≡ None
unfolding unknown_call
quiet-call s setup quiet = quiet-row s.core (row_at s setup) quiet

-- ---- how many bytes calls move

pub none-needs : (start : State) (setup : Setup) → needs_of start setup 0 ≡ false
unfolding needs_of
none-needs start setup = refl

pub one-needs : (start : State) (setup : Setup) (n : ℕ) → needs_of start setup (suc n)
    ≡ (needs_of start setup n || needs_limits (pre start setup [] n) setup)
unfolding needs_of
one-needs start setup n = refl

pub needs-next : (start : State) (setup : Setup) (n : ℕ) (b : Bool) → b ≡ needs_limits (pre start setup [] n) setup
    → needs_of start setup (n + 1) ≡ (needs_of start setup n || b)
needs-next start setup n b is =
    let next : n + 1 ≡ suc n = omega arith in
    ap (needs_of start setup) next ∙ one-needs start setup n ∙ ap (λ b. needs_of start setup n || b) (sym is)

quiet-limits : (core : Core) (row : Option Instruction) (written : ℕ) → calls_out row ≡ false
    → needs_limits_row core row written ≡ false
unfolding calls_out needs_limits_row
quiet-limits core None written h = refl
quiet-limits core (Some (rows.LoadUpper rd imm)) written h = refl
quiet-limits core (Some (rows.AddUpper rd imm)) written h = refl
quiet-limits core (Some (rows.Jump rd imm)) written h = refl
quiet-limits core (Some (rows.JumpRegister rd rs1 imm)) written h = refl
quiet-limits core (Some (rows.Branch test rs1 rs2 imm)) written h = refl
quiet-limits core (Some (rows.Load width signed rd rs1 imm)) written h = refl
quiet-limits core (Some (rows.Store width rs1 rs2 imm)) written h = refl
quiet-limits core (Some (rows.Immediate operation rd rs1 imm)) written h = refl
quiet-limits core (Some (rows.Registers operation rd rs1 rs2)) written h = refl
quiet-limits core (Some rows.Fence) written h = refl
quiet-limits core (Some rows.CallEnvironment) written h = cc
quiet-limits core (Some rows.Breakpoint) written h = refl
quiet-limits core (Some (rows.LoadReserved rd rs1)) written h = refl
quiet-limits core (Some (rows.StoreConditional rd rs1 rs2)) written h = refl
quiet-limits core (Some (rows.Update update rd rs1 rs2)) written h = refl
quiet-limits core (Some (rows.Control access rd number operand)) written h = refl
quiet-limits core (Some rows.Barrier) written h = refl

quiet-needs : (s : State) (setup : Setup) → calls_out (row_at s setup) ≡ false → needs_limits s setup ≡ false
unfolding needs_limits
quiet-needs s setup quiet = quiet-limits s.core (row_at s setup) (length s.output) quiet

or-false : (b : Bool) → (b || false) ≡ b
or-false true = refl
or-false false = refl

-- ---- steps that are no ECALLs

-- steps that are no ECALLs, from step n of a run on
pub record Silence (start : State) (setup : Setup) (n k : ℕ) : Type 0 where
  pub same : SameStreams (pre start setup [] n) (pre start setup [] (n + k))
  pub none : (d : ℕ) → written_to start setup d (n + k) ≡ written_to start setup d n
  pub known : calls_of start setup (n + k) ≡ calls_of start setup n
  pub limits : needs_of start setup (n + k) ≡ needs_of start setup n
  pub refused : refused_writes start setup (n + k) ≡ refused_writes start setup n

module _ (law : OnlyCallsSpeak) (start : State) (setup : Setup) (n : ℕ) where
  silence : (k : ℕ) → ((i : ℕ) → i < k → calls_out (row_at (pre start setup [] (n + i)) setup) ≡ false)
      → Silence start setup n k
  silence zero quiet = record {
    same = subst (λ m. SameStreams (pre start setup [] n) (pre start setup [] m)) (sym (add-zero n))
        (same-self (pre start setup [] n));
    none = λ d. ap (written_to start setup d) (add-zero n);
    known = ap (calls_of start setup) (add-zero n);
    limits = ap (needs_of start setup) (add-zero n);
    refused = ap (refused_writes start setup) (add-zero n);
  }
  silence (suc k) quiet =
      let before = silence k (λ i less. quiet i (omega arith)) in
      let step = law setup (pre start setup [] (n + k)) (quiet k (omega arith)) in
      let next : suc (n + k) ≡ n + suc k = omega arith in
      record {
        same = subst (λ m. SameStreams (pre start setup [] n) (pre start setup [] m)) next
            (subst (λ t. SameStreams (pre start setup [] n) t) (sym (one-more start setup (n + k)))
            (same-on _ _ _ before.same step.0));
        none = λ d. ap (written_to start setup d) (sym next) ∙ one-written start setup d (n + k)
            ∙ ap (λ piece. written_to start setup d (n + k) ++ piece)
            (silent-piece (pre start setup [] (n + k)) setup d step.0.output)
            ∙ append-nil (written_to start setup d (n + k)) ∙ before.none d;
        known = ap (calls_of start setup) (sym next) ∙ one-unknown start setup (n + k)
            ∙ ap (after_maybe (calls_of start setup (n + k)))
            (quiet-call (pre start setup [] (n + k)) setup (quiet k (omega arith))) ∙ before.known;
        limits = ap (needs_of start setup) (sym next) ∙ one-needs start setup (n + k)
            ∙ ap (λ b. needs_of start setup (n + k) || b)
            (quiet-needs (pre start setup [] (n + k)) setup (quiet k (omega arith)))
            ∙ or-false (needs_of start setup (n + k)) ∙ before.limits;
        refused = ap (refused_writes start setup) (sym next) ∙ one-refused start setup (n + k)
            ∙ ap (λ b. refused_writes start setup (n + k) + cond b 1 0) step.1
            ∙ add-zero (refused_writes start setup (n + k))
            ∙ before.refused;
      }

  -- of a run from there
  pub silence-of : (k : ℕ) → IsQuietFor (pre start setup [] n) setup k → Silence start setup n k
  silence-of k quiet = silence k (λ i less. ap (λ s. calls_out (row_at s setup)) (sym (joined start setup n i))
      ∙ quiet i less)

  -- a state at rest only counts its steps
  pub rests-on : StaysAtRest → Rests (pre start setup [] n) setup → (k : ℕ)
      → (pre start setup [] (n + k) ≡ rested (pre start setup [] n) k) × Silence start setup n k
  rests-on rest h k = (
    sym (joined start setup n k) ∙ (rest setup (pre start setup [] n) h k).0,
    silence-of k (λ i less. (rest setup (pre start setup [] n) h i).1),
  )

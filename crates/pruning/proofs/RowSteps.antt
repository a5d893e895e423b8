-- What an instruction leaves, where a register that it doesn't look at holds other bits.
use Rattle.std.proofs.Common.{◌≡◌, ℕ, ◌+◌, ◌*◌, ◌/◌, ◌%◌, ◌^◌, ◌≤◌, ◌==◌, ◌&&◌, ◌||◌, ◌++◌, Bool, true, false}
use Rattle.std.proofs.Common.{List, [], cond, not, Option, Some, None, refl, ap, ap₂, subst, ◌∙◌, arith}
use Rattle.std.proofs.lemmas.Bool.Decides.{nat_tests}
use Rattle.definedness.specs.declared.Bits.{Bits}
use Rattle.error_events.specs.declared.event.Event.{Event}
use Rattle.error_events.specs.declared.kind.Kind.TheVariants.{Cond, Read, Write, Value}
use Rattle.instructions.specs.Alu.{computed, extended, passes, is_undecided}
use Rattle.instructions.specs.CallStack.{jal_hint, jalr_hint}
use Rattle.instructions.specs.Widths.{width_len}
use Rattle.instructions.specs.declared.hint.StackHint.{StackHint}
use Rattle.instructions.specs.declared.width.Width.{Width}
use Rattle.instructions.specs.declared.instruction.Comparison.{Comparison}
use Rattle.instructions.specs.declared.instruction.Instruction.{Instruction}
use Rattle.instructions.specs.declared.instruction.Instruction.TheVariants.{LoadUpper, AddUpper, Jump, JumpRegister}
use Rattle.instructions.specs.declared.instruction.Instruction.TheVariants.{Branch, Load, Store, Immediate, Registers}
use Rattle.instructions.specs.declared.instruction.Instruction.TheVariants.{Fence, CallEnvironment, Breakpoint}
use Rattle.instructions.specs.declared.instruction.Instruction.TheVariants.{LoadReserved, StoreConditional, Update}
use Rattle.instructions.specs.declared.instruction.Instruction.TheVariants.{Control, Barrier}
use Rattle.shadow_memory.specs.Ranges.{byte_of, little_word}
use Rattle.guest_elf.specs.Profiles.{has_controls, is_aligned}
use Rattle.run_values.specs.declared.status.Stop.TheVariants.{Illegal}
use Rattle.guest_machine.specs.Controls.{barrier}
use Rattle.guest_machine.specs.State.{Core}
use Rattle.guest_machine.specs.Registers.{known, register, set_register, tested}
use Rattle.guest_machine.specs.Effects.{Effect, branch, branch_errors, branch_tested, branched}
use Rattle.guest_machine.specs.Effects.{jump_register, linked_jump, load, quiet, raising, results_in, store}
use Rattle.guest_machine.specs.Effects.{moved_to, stops, stored_core}
use Rattle.guest_machine.specs.Effects.{target}
use Rattle.guest_machine.specs.Errors.{access_errors, event_unless, here, taken_undef, value_errors}
use Rattle.guest_machine.specs.Exec.{Terms, calls_heap, reading, row_asks, row_effect, row_uses, writing}
use Rattle.guest_machine.specs.Spans.{span_at}
use Rattle.pruning.specs.Passing.{completes, reads, writes}
use Rattle.pruning.proofs.Replaced.{put, register-other, set-other, set-again, set-stays, tested-other}
use Rattle.pruning.proofs.Replaced.{tested-stays, tested-isa, target-other, linked-other}
use Rattle.pruning.proofs.Replaced.{linked-stays, linked-again}
use Rattle.pruning.proofs.Replaced.{branch-other, branch-stays, branched-other, branched-stays}

-- an effect whose core has other bits in a register
abbrev pub over : Effect → ℕ → Bits → Effect
over e r bits = record { core = put e.core r bits; raised = e.raised; made = e.made; output = e.output }

first : (p q : Bool) → p || q ≡ false → p ≡ false
first true q h = h
first false q h = refl

second : (p q : Bool) → p || q ≡ false → q ≡ false
second true q h = cc
second false q h = h

left : (p q : Bool) → p && q ≡ true → p ≡ true
left true q h = refl
left false q h = cc

right : (p q : Bool) → p && q ≡ true → q ≡ true
right true q h = h
right false q h = cc

number : (m n : ℕ) → (m == n) ≡ true → m ≡ n
number m n h = grind (arith, nat_tests)

-- ---- the parts of an effect, with the operands as values

result-other : (core : Core) (next r rd : ℕ) (bits new : Bits) → (r == rd) ≡ false
    → results_in (put core r bits) next rd new ≡ over (results_in core next rd new) r bits
result-other core next r rd bits new h = ap (λ k. quiet (moved_to k next)) (set-other core r rd bits new h)

result-again : (core : Core) (next r rd : ℕ) (bits new : Bits) → 1 ≤ r → (r == rd) ≡ true
    → results_in (put core r bits) next rd new ≡ results_in core next rd new
result-again core next r rd bits new one h =
    subst (λ q. results_in (put core r bits) next q new ≡ results_in core next q new) (number r rd h)
    (ap (λ k. quiet (moved_to k next)) (set-again core r bits new one))

result-stays : (core : Core) (next r rd : ℕ) (new : Bits) → (r == rd) ≡ false
    → register (results_in core next rd new).core r ≡ register core r
unfolding register
result-stays core next r rd new h = set-stays core r rd new h

errors-other : (core : Core) (r q : ℕ) (bits : Bits) → (r == q) ≡ false
    → value_errors (put core r bits) q ≡ value_errors core q
errors-other core r q bits h =
    ap (λ (x : Bits). event_unless (x.undef == 0) (here core) Value) (register-other core r q bits h)

-- a load after the test of its operand
loaded : Core → ℕ → ℕ → List Event → Width → Bool → ℕ → (ℕ → ℕ) → Effect
loaded now next start errors width signed rd taken =
    let bits : Bits = record {
      value = extended width signed (little_word taken);
      undef = extended width signed (taken_undef now start (width_len width));
    } in
    raising (moved_to (set_register now rd bits) next)
    (errors ++ access_errors now (Read (width_len width)) start (width_len width))

loaded-at : (core : Core) (next r rs1 imm : ℕ) (bits : Bits) (width : Width) (signed : Bool) (rd : ℕ) (taken : ℕ → ℕ)
    → (r == rs1) ≡ false
    → load (put core r bits) next width signed rd rs1 imm taken
    ≡ loaded (put (tested core rs1) r bits) next (target core rs1 imm) (value_errors core rs1) width signed rd taken
unfolding loaded
loaded-at core next r rs1 imm bits width signed rd taken h =
    λ i. loaded (tested-other core r rs1 bits h i) next (target-other core r rs1 bits imm h i)
    (errors-other core r rs1 bits h i) width signed rd taken

load-bits : Core → ℕ → Width → Bool → (ℕ → ℕ) → Bits
load-bits now start width signed taken =
    record {
      value = extended width signed (little_word taken);
      undef = extended width signed (taken_undef now start (width_len width));
    }

load-raised : Core → ℕ → List Event → Width → List Event
load-raised now start errors width =
    errors ++ access_errors now (Read (width_len width)) start (width_len width)

load-other : (core : Core) (next r rs1 imm : ℕ) (bits : Bits) (width : Width) (signed : Bool) (rd : ℕ) (taken : ℕ → ℕ)
    → (r == rs1) ≡ false → (r == rd) ≡ false
    → load (put core r bits) next width signed rd rs1 imm taken ≡ over (load core next width signed rd rs1 imm taken)
    r bits
unfolding loaded load-bits load-raised
load-other core next r rs1 imm bits width signed rd taken h g =
    let now = tested core rs1 in
    let start = target core rs1 imm in
    loaded-at core next r rs1 imm bits width signed rd taken h
    ∙ ap (λ k. raising (moved_to k next) (load-raised now start (value_errors core rs1) width))
    (set-other now r rd bits (load-bits now start width signed taken) g)

load-again : (core : Core) (next r rs1 imm : ℕ) (bits : Bits) (width : Width) (signed : Bool) (rd : ℕ) (taken : ℕ → ℕ)
    → 1 ≤ r → (r == rs1) ≡ false → (r == rd) ≡ true
    → load (put core r bits) next width signed rd rs1 imm taken ≡ load core next width signed rd rs1 imm taken
unfolding loaded load-bits load-raised
load-again core next r rs1 imm bits width signed rd taken one h g =
    let now = tested core rs1 in
    let start = target core rs1 imm in
    let new = load-bits now start width signed taken in
    let same : set_register (put now r bits) rd new ≡ set_register now rd new =
    subst (λ q. set_register (put now r bits) q new ≡ set_register now q new) (number r rd g)
    (set-again now r bits new one) in
    loaded-at core next r rs1 imm bits width signed rd taken h
    ∙ ap (λ k. raising (moved_to k next) (load-raised now start (value_errors core rs1) width)) same

-- a store after the test of its first operand
stored : Core → ℕ → ℕ → Bits → List Event → Width → Effect
stored now next start second errors width =
    record {
      core = moved_to (stored_core now start (width_len width) second.undef) next;
      raised = errors ++ access_errors now (Write (width_len width)) start (width_len width);
      made = byte_of second.value;
      output = [];
    }

store-other : (core : Core) (next r rs1 rs2 imm : ℕ) (bits : Bits) (width : Width)
    → (r == rs1) ≡ false → (r == rs2) ≡ false
    → store (put core r bits) next width rs1 rs2 imm ≡ over (store core next width rs1 rs2 imm) r bits
unfolding stored
store-other core next r rs1 rs2 imm bits width h g =
    let moved : register (tested (put core r bits) rs1) rs2 ≡ register (tested core rs1) rs2 =
    ap (λ k. register k rs2) (tested-other core r rs1 bits h) ∙ register-other (tested core rs1) r rs2 bits g in
    λ i. stored (tested-other core r rs1 bits h i) next (target-other core r rs1 bits imm h i) (moved i)
    (errors-other core r rs1 bits h i) width

branch-same : (core : Core) (next : ℕ) (test : Comparison) (r rs1 rs2 imm : ℕ) (bits : Bits)
    → (r == rs1) ≡ false → (r == rs2) ≡ false
    → branch (put core r bits) next test rs1 rs2 imm ≡ over (branch core next test rs1 rs2 imm) r bits
branch-same core next test r rs1 rs2 imm bits h g =
    let to = (core.pc + imm) % 2 ^ 32 in
    let one = register-other core r rs1 bits h in
    let two = register-other core r rs2 bits g in
    (λ i. raising
    (branched (passes test (one i).value (two i).value) (branch-other core test r rs1 rs2 bits h g i) next to)
    (event_unless (not (is_undecided test (one i) (two i))) (here core) Cond))
    ∙ ap (λ k. raising k (branch_errors core test rs1 rs2))
    (branched-other (passes test (register core rs1).value (register core rs2).value) (branch_tested core test rs1 rs2)
    next r to bits)

-- the test of an operand leaves the instruction set
after-test : (core : Core) (q to : ℕ) (p b : Bool) → is_aligned core.isa to && p ≡ b
    → is_aligned (tested core q).isa to && p ≡ b
after-test core q to p b h = ap (λ isa. is_aligned isa to && p) (tested-isa core q) ∙ h

jump-other : (core : Core) (next r rd rs1 imm : ℕ) (bits : Bits) → (r == rs1) ≡ false
    → is_aligned core.isa (target core rs1 imm / 2 * 2) && (r == rd) ≡ false
    → jump_register (put core r bits) next rd rs1 imm ≡ over (jump_register core next rd rs1 imm) r bits
jump-other core next r rd rs1 imm bits h g =
    let hint = jalr_hint rd rs1 in
    let to = target core rs1 imm / 2 * 2 in
    (λ i. raising (linked_jump (tested-other core r rs1 bits h i) next hint rd
    (target-other core r rs1 bits imm h i / 2 * 2)) (errors-other core r rs1 bits h i))
    ∙ ap (λ k. raising k (value_errors core rs1))
    (linked-other (tested core rs1) next hint r rd to bits (after-test core rs1 to (r == rd) false g))

linked-over : (core : Core) (next : ℕ) (hint : StackHint) (r rd to : ℕ) (bits : Bits) → 1 ≤ r
    → is_aligned core.isa to && (r == rd) ≡ true
    → linked_jump (put core r bits) next hint rd to ≡ linked_jump core next hint rd to
linked-over core next hint r rd to bits one g =
    subst (λ q. linked_jump (put core r bits) next hint q to ≡ linked_jump core next hint q to)
    (number r rd (right (is_aligned core.isa to) (r == rd) g))
    (linked-again core next hint r to bits one (left (is_aligned core.isa to) (r == rd) g))

jump-again : (core : Core) (next r rd rs1 imm : ℕ) (bits : Bits) → 1 ≤ r → (r == rs1) ≡ false
    → is_aligned core.isa (target core rs1 imm / 2 * 2) && (r == rd) ≡ true
    → jump_register (put core r bits) next rd rs1 imm ≡ jump_register core next rd rs1 imm
jump-again core next r rd rs1 imm bits one h g =
    let hint = jalr_hint rd rs1 in
    let to = target core rs1 imm / 2 * 2 in
    (λ i. raising (linked_jump (tested-other core r rs1 bits h i) next hint rd
    (target-other core r rs1 bits imm h i / 2 * 2)) (errors-other core r rs1 bits h i))
    ∙ ap (λ k. raising k (value_errors core rs1))
    (linked-over (tested core rs1) next hint r rd to bits one (after-test core rs1 to (r == rd) true g))

-- ---- a fence of fetches, or a wait for an interrupt

barrier-other : (core : Core) (next r : ℕ) (bits : Bits)
    → barrier (put core r bits) next ≡ over (barrier core next) r bits
unfolding barrier
barrier-other core next r bits = go (has_controls core.isa)
  where
    go : (has : Bool) → cond has (quiet (moved_to (put core r bits) next)) (stops (put core r bits) Illegal)
        ≡ over (cond has (quiet (moved_to core next)) (stops core Illegal)) r bits
    go true = refl
    go false = refl

barrier-stays : (core : Core) (next r : ℕ) → register (barrier core next).core r ≡ register core r
unfolding barrier register
barrier-stays core next r = go (has_controls core.isa)
  where
    go : (has : Bool) → register (cond has (quiet (moved_to core next)) (stops core Illegal)).core r ≡ register core r
    go true = refl
    go false = refl

-- ---- all instructions

-- one that keeps the register
pub row-other : (core : Core) (next : ℕ) (row : Option Instruction) (r : ℕ) (bits : Bits) (terms : Terms)
    (given : List ℕ) (taken : ℕ → ℕ) → reads row r ≡ false → completes core row && writes row r ≡ false
    → row_effect (put core r bits) next row terms given taken ≡ over (row_effect core next row terms given taken) r bits
unfolding row_effect reads writes completes
row-other core next None r bits terms given taken h w = refl
row-other core next (Some (LoadUpper rd imm)) r bits terms given taken h w = result-other core next r rd bits _ w
row-other core next (Some (AddUpper rd imm)) r bits terms given taken h w = result-other core next r rd bits _ w
row-other core next (Some (Jump rd imm)) r bits terms given taken h w =
    ap quiet (linked-other core next (jal_hint rd) r rd ((core.pc + imm) % 2 ^ 32) bits w)
row-other core next (Some (JumpRegister rd rs1 imm)) r bits terms given taken h w =
    jump-other core next r rd rs1 imm bits h w
row-other core next (Some (Branch test rs1 rs2 imm)) r bits terms given taken h w =
    branch-same core next test r rs1 rs2 imm bits (first _ _ h) (second _ _ h)
row-other core next (Some (Load width signed rd rs1 imm)) r bits terms given taken h w =
    load-other core next r rs1 imm bits width signed rd taken h w
row-other core next (Some (Store width rs1 rs2 imm)) r bits terms given taken h w =
    store-other core next r rs1 rs2 imm bits width (first _ _ h) (second _ _ h)
row-other core next (Some (Immediate operation rd rs1 imm)) r bits terms given taken h w =
    ap (λ x. results_in (put core r bits) next rd (computed operation x (known imm))) (register-other core r rs1 bits h)
    ∙ result-other core next r rd bits _ w
row-other core next (Some (Registers operation rd rs1 rs2)) r bits terms given taken h w =
    ap₂ (λ x y. results_in (put core r bits) next rd (computed operation x y))
    (register-other core r rs1 bits (first _ _ h)) (register-other core r rs2 bits (second _ _ h))
    ∙ result-other core next r rd bits _ w
row-other core next (Some Fence) r bits terms given taken h w = refl
row-other core next (Some CallEnvironment) r bits terms given taken h w = cc
row-other core next (Some Breakpoint) r bits terms given taken h w = refl
row-other core next (Some (LoadReserved rd rs1)) r bits terms given taken h w = cc
row-other core next (Some (StoreConditional rd rs1 rs2)) r bits terms given taken h w = cc
row-other core next (Some (Update update rd rs1 rs2)) r bits terms given taken h w = cc
row-other core next (Some (Control access rd number operand)) r bits terms given taken h w = cc
row-other core next (Some Barrier) r bits terms given taken h w = barrier-other core next r bits

-- and leaves it as it is
pub row-stays : (core : Core) (next : ℕ) (row : Option Instruction) (r : ℕ) (terms : Terms) (given : List ℕ)
    (taken : ℕ → ℕ) → reads row r ≡ false → completes core row && writes row r ≡ false
    → register (row_effect core next row terms given taken).core r ≡ register core r
unfolding row_effect reads writes completes register
row-stays core next None r terms given taken h w = refl
row-stays core next (Some (LoadUpper rd imm)) r terms given taken h w = result-stays core next r rd _ w
row-stays core next (Some (AddUpper rd imm)) r terms given taken h w = result-stays core next r rd _ w
row-stays core next (Some (Jump rd imm)) r terms given taken h w =
    linked-stays core next (jal_hint rd) r rd ((core.pc + imm) % 2 ^ 32) w
row-stays core next (Some (JumpRegister rd rs1 imm)) r terms given taken h w =
    linked-stays (tested core rs1) next (jalr_hint rd rs1) r rd (target core rs1 imm / 2 * 2)
    (after-test core rs1 (target core rs1 imm / 2 * 2) (r == rd) false w) ∙ tested-stays core r rs1 h
row-stays core next (Some (Branch test rs1 rs2 imm)) r terms given taken h w =
    branched-stays (passes test (register core rs1).value (register core rs2).value)
    (branch_tested core test rs1 rs2) next r ((core.pc + imm) % 2 ^ 32)
    ∙ branch-stays core test r rs1 rs2 (first _ _ h) (second _ _ h)
row-stays core next (Some (Load width signed rd rs1 imm)) r terms given taken h w =
    set-stays (tested core rs1) r rd _ w ∙ tested-stays core r rs1 h
row-stays core next (Some (Store width rs1 rs2 imm)) r terms given taken h w = tested-stays core r rs1 (first _ _ h)
row-stays core next (Some (Immediate operation rd rs1 imm)) r terms given taken h w = result-stays core next r rd _ w
row-stays core next (Some (Registers operation rd rs1 rs2)) r terms given taken h w = result-stays core next r rd _ w
row-stays core next (Some Fence) r terms given taken h w = refl
row-stays core next (Some CallEnvironment) r terms given taken h w = cc
row-stays core next (Some Breakpoint) r terms given taken h w = refl
row-stays core next (Some (LoadReserved rd rs1)) r terms given taken h w = cc
row-stays core next (Some (StoreConditional rd rs1 rs2)) r terms given taken h w = cc
row-stays core next (Some (Update update rd rs1 rs2)) r terms given taken h w = cc
row-stays core next (Some (Control access rd number operand)) r terms given taken h w = cc
row-stays core next (Some Barrier) r terms given taken h w = barrier-stays core next r

-- one that overwrites it
pub row-again : (core : Core) (next : ℕ) (row : Option Instruction) (r : ℕ) (bits : Bits) (terms : Terms)
    (given : List ℕ) (taken : ℕ → ℕ) → 1 ≤ r → reads row r ≡ false → completes core row && writes row r ≡ true
    → row_effect (put core r bits) next row terms given taken ≡ row_effect core next row terms given taken
unfolding row_effect reads writes completes
row-again core next None r bits terms given taken one h w = cc
row-again core next (Some (LoadUpper rd imm)) r bits terms given taken one h w =
    result-again core next r rd bits _ one w
row-again core next (Some (AddUpper rd imm)) r bits terms given taken one h w = result-again core next r rd bits _ one w
row-again core next (Some (Jump rd imm)) r bits terms given taken one h w =
    ap quiet (linked-over core next (jal_hint rd) r rd ((core.pc + imm) % 2 ^ 32) bits one w)
row-again core next (Some (JumpRegister rd rs1 imm)) r bits terms given taken one h w =
    jump-again core next r rd rs1 imm bits one h w
row-again core next (Some (Branch test rs1 rs2 imm)) r bits terms given taken one h w = cc
row-again core next (Some (Load width signed rd rs1 imm)) r bits terms given taken one h w =
    load-again core next r rs1 imm bits width signed rd taken one h w
row-again core next (Some (Store width rs1 rs2 imm)) r bits terms given taken one h w = cc
row-again core next (Some (Immediate operation rd rs1 imm)) r bits terms given taken one h w =
    ap (λ x. results_in (put core r bits) next rd (computed operation x (known imm))) (register-other core r rs1 bits h)
    ∙ result-again core next r rd bits _ one w
row-again core next (Some (Registers operation rd rs1 rs2)) r bits terms given taken one h w =
    ap₂ (λ x y. results_in (put core r bits) next rd (computed operation x y))
    (register-other core r rs1 bits (first _ _ h)) (register-other core r rs2 bits (second _ _ h))
    ∙ result-again core next r rd bits _ one w
row-again core next (Some Fence) r bits terms given taken one h w = cc
row-again core next (Some CallEnvironment) r bits terms given taken one h w = cc
row-again core next (Some Breakpoint) r bits terms given taken one h w = cc
row-again core next (Some (LoadReserved rd rs1)) r bits terms given taken one h w = cc
row-again core next (Some (StoreConditional rd rs1 rs2)) r bits terms given taken one h w = cc
row-again core next (Some (Update update rd rs1 rs2)) r bits terms given taken one h w = cc
row-again core next (Some (Control access rd number operand)) r bits terms given taken one h w = cc
row-again core next (Some Barrier) r bits terms given taken one h w = cc

-- and what it reads and writes of memory is the same
pub uses-other : (core : Core) (row : Option Instruction) (r : ℕ) (bits : Bits) (terms : Terms) → reads row r ≡ false
    → row_uses (put core r bits) row terms ≡ row_uses core row terms
unfolding row_uses reads
uses-other core None r bits terms h = refl
uses-other core (Some (LoadUpper rd imm)) r bits terms h = refl
uses-other core (Some (AddUpper rd imm)) r bits terms h = refl
uses-other core (Some (Jump rd imm)) r bits terms h = refl
uses-other core (Some (JumpRegister rd rs1 imm)) r bits terms h = refl
uses-other core (Some (Branch test rs1 rs2 imm)) r bits terms h = refl
uses-other core (Some (Load width signed rd rs1 imm)) r bits terms h =
    ap (λ start. reading (span_at start (width_len width))) (target-other core r rs1 bits imm h)
uses-other core (Some (Store width rs1 rs2 imm)) r bits terms h =
    ap (λ start. writing (span_at start (width_len width))) (target-other core r rs1 bits imm (first _ _ h))
uses-other core (Some (Immediate operation rd rs1 imm)) r bits terms h = refl
uses-other core (Some (Registers operation rd rs1 rs2)) r bits terms h = refl
uses-other core (Some Fence) r bits terms h = refl
uses-other core (Some CallEnvironment) r bits terms h = cc
uses-other core (Some Breakpoint) r bits terms h = refl
uses-other core (Some (LoadReserved rd rs1)) r bits terms h = cc
uses-other core (Some (StoreConditional rd rs1 rs2)) r bits terms h = cc
uses-other core (Some (Update update rd rs1 rs2)) r bits terms h = cc
uses-other core (Some (Control access rd number operand)) r bits terms h = cc
uses-other core (Some Barrier) r bits terms h = refl

-- no such instruction is a call of the environment
pub no-heap : (core : Core) (row : Option Instruction) (r : ℕ) → reads row r ≡ false → calls_heap core row ≡ false
unfolding calls_heap reads
no-heap core None r h = refl
no-heap core (Some (LoadUpper rd imm)) r h = refl
no-heap core (Some (AddUpper rd imm)) r h = refl
no-heap core (Some (Jump rd imm)) r h = refl
no-heap core (Some (JumpRegister rd rs1 imm)) r h = refl
no-heap core (Some (Branch test rs1 rs2 imm)) r h = refl
no-heap core (Some (Load width signed rd rs1 imm)) r h = refl
no-heap core (Some (Store width rs1 rs2 imm)) r h = refl
no-heap core (Some (Immediate operation rd rs1 imm)) r h = refl
no-heap core (Some (Registers operation rd rs1 rs2)) r h = refl
no-heap core (Some Fence) r h = refl
no-heap core (Some CallEnvironment) r h = cc
no-heap core (Some Breakpoint) r h = refl
no-heap core (Some (LoadReserved rd rs1)) r h = cc
no-heap core (Some (StoreConditional rd rs1 rs2)) r h = cc
no-heap core (Some (Update update rd rs1 rs2)) r h = cc
no-heap core (Some (Control access rd number operand)) r h = cc
no-heap core (Some Barrier) r h = refl

pub asks-none : (core : Core) (row : Option Instruction) (r : ℕ) → reads row r ≡ false → row_asks core row ≡ None
unfolding row_asks reads
asks-none core None r h = refl
asks-none core (Some (LoadUpper rd imm)) r h = refl
asks-none core (Some (AddUpper rd imm)) r h = refl
asks-none core (Some (Jump rd imm)) r h = refl
asks-none core (Some (JumpRegister rd rs1 imm)) r h = refl
asks-none core (Some (Branch test rs1 rs2 imm)) r h = refl
asks-none core (Some (Load width signed rd rs1 imm)) r h = refl
asks-none core (Some (Store width rs1 rs2 imm)) r h = refl
asks-none core (Some (Immediate operation rd rs1 imm)) r h = refl
asks-none core (Some (Registers operation rd rs1 rs2)) r h = refl
asks-none core (Some Fence) r h = refl
asks-none core (Some CallEnvironment) r h = cc
asks-none core (Some Breakpoint) r h = refl
asks-none core (Some (LoadReserved rd rs1)) r h = cc
asks-none core (Some (StoreConditional rd rs1 rs2)) r h = cc
asks-none core (Some (Update update rd rs1 rs2)) r h = cc
asks-none core (Some (Control access rd number operand)) r h = cc
asks-none core (Some Barrier) r h = refl

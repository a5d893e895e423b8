-- A core with other bits in one register: tests and changes of other registers, of pc and of the shadow are the same.
use Rattle.std.proofs.Common.{◌≡◌, ◌≢◌, ℕ, ◌+◌, ◌-◌, ◌%◌, ◌^◌, ◌≤◌, ◌==◌, ◌&&◌, nat_lt}
use Rattle.std.proofs.Common.{Bool, true, false, cond, refl, ap, ap₂, sym, ◌∙◌, arith, List, slice_set}
use Rattle.std.proofs.Common.{slice_index_or}
use Rattle.std.proofs.lemmas.Bool.Decides.{nat_tests}
use Rattle.std.proofs.lemmas.List.{get_or-set_other, set-set, set_comm}
use Rattle.definedness.specs.declared.Bits.{Bits}
use Rattle.instructions.specs.declared.hint.StackHint.{StackHint}
use Rattle.instructions.specs.declared.instruction.Comparison.{Comparison}
use Rattle.instructions.specs.Alu.{is_undecided}
use Rattle.guest_elf.specs.Profiles.{is_aligned}
use Rattle.guest_machine.specs.State.{Core}
use Rattle.guest_machine.specs.Registers.{known, register, set_register, defined, tested}
use Rattle.guest_machine.specs.Effects.{branched, branch_tested, followed, jumped, linked_jump, moved_to}
use Rattle.guest_machine.specs.Effects.{stopped, target}
use Rattle.guest_machine.specs.StackPointer.{framed, is_stack_pointer, ranged, stack_moved, stack_ruled}
use Rattle.run_values.specs.declared.status.Stop.TheVariants.{Misaligned}
use Rattle.shadow_memory.specs.declared.cells.RangeKind.{RangeKind}
use Rattle.shadow_memory.specs.declared.cells.RangeKind.TheVariants.{NoAccess, Undefined}

abbrev pub put : Core → ℕ → Bits → Core
put core r bits = record core { registers = slice_set core.registers r bits }

nonzero : (r : ℕ) → 1 ≤ r → (r == 0) ≡ false
nonzero r one = grind (arith, nat_tests)

pub set-is : (core : Core) (r : ℕ) (bits : Bits) → 1 ≤ r → set_register core r bits ≡ put core r bits
unfolding set_register
set-is core r bits one =
    ap (λ t. record core { registers = cond t core.registers (slice_set core.registers r bits) }) (nonzero r one)

pub apart : (r q : ℕ) → (r == q) ≡ false → r ≢ q
apart r q h = λ e. grind (arith, nat_tests)

pub apart-back : (r q : ℕ) → (r == q) ≡ false → q ≢ r
apart-back r q h = λ e. grind (arith, nat_tests)

-- ---- one register

pub register-other : (core : Core) (r q : ℕ) (bits : Bits) → (r == q) ≡ false
    → register (put core r bits) q ≡ register core q
unfolding register
register-other core r q bits h =
    ap (λ x. cond (q == 0) (known 0) x) (get_or-set_other core.registers r q bits (known 0) (apart-back r q h))

pub set-other : (core : Core) (r q : ℕ) (bits new : Bits) → (r == q) ≡ false
    → set_register (put core r bits) q new ≡ put (set_register core q new) r bits
unfolding set_register
set-other core r q bits new h = go (q == 0)
  where
    xs : List Bits
    xs = core.registers

    go : (t : Bool) → record core { registers = cond t (slice_set xs r bits) (slice_set (slice_set xs r bits) q new) }
        ≡ record core { registers = slice_set (cond t xs (slice_set xs q new)) r bits }
    go true = refl
    go false = ap (λ ys. record core { registers = ys }) (set_comm xs r q bits new (apart r q h))

pub set-again : (core : Core) (r : ℕ) (bits new : Bits) → 1 ≤ r
    → set_register (put core r bits) r new ≡ set_register core r new
unfolding set_register
set-again core r bits new one =
    let xs = core.registers in
    let far = slice_set xs r bits in
    let zero = nonzero r one in
    ap (λ t. record core { registers = cond t far (slice_set far r new) }) zero
    ∙ ap (λ ys. record core { registers = ys }) (set-set xs r bits new)
    ∙ ap (λ t. record core { registers = cond t xs (slice_set xs r new) }) (sym zero)

-- another register that is set leaves this one
pub set-stays : (core : Core) (r q : ℕ) (new : Bits) → (r == q) ≡ false
    → register (set_register core q new) r ≡ register core r
unfolding register set_register
set-stays core r q new h = ap (λ x. cond (r == 0) (known 0) x) (go (q == 0))
  where
    xs : List Bits
    xs = core.registers

    go : (t : Bool) → slice_index_or (cond t xs (slice_set xs q new)) r (known 0) ≡ slice_index_or xs r (known 0)
    go true = refl
    go false = get_or-set_other xs q r new (known 0) (apart r q h)

-- ---- tests

pub defined-other : (core : Core) (r q : ℕ) (bits : Bits) → (r == q) ≡ false
    → defined (put core r bits) q ≡ put (defined core q) r bits
defined-other core r q bits h =
    ap (λ (x : Bits). set_register (put core r bits) q (known x.value)) (register-other core r q bits h)
    ∙ set-other core r q bits (known (register core q).value) h

pub tested-other : (core : Core) (r q : ℕ) (bits : Bits) → (r == q) ≡ false
    → tested (put core r bits) q ≡ put (tested core q) r bits
unfolding tested
tested-other core r q bits h =
    ap (λ (x : Bits). cond (x.undef == 0) (put core r bits) (set_register (put core r bits) q (known x.value)))
    (register-other core r q bits h) ∙ go ((register core q).undef == 0)
  where
    new : Bits
    new = known (register core q).value

    go : (t : Bool) → cond t (put core r bits) (set_register (put core r bits) q new)
        ≡ put (cond t core (set_register core q new)) r bits
    go true = refl
    go false = set-other core r q bits new h

pub tested-stays : (core : Core) (r q : ℕ) → (r == q) ≡ false → register (tested core q) r ≡ register core r
unfolding tested
tested-stays core r q h = go ((register core q).undef == 0)
  where
    new : Bits
    new = known (register core q).value

    go : (t : Bool) → register (cond t core (set_register core q new)) r ≡ register core r
    go true = refl
    go false = set-stays core r q new h

pub tested-isa : (core : Core) (q : ℕ) → (tested core q).isa ≡ core.isa
unfolding tested set_register
tested-isa core q = go ((register core q).undef == 0)
  where
    go : (t : Bool) → (cond t core (set_register core q (known (register core q).value))).isa ≡ core.isa
    go true = refl
    go false = refl

pub target-other : (core : Core) (r q : ℕ) (bits : Bits) (imm : ℕ) → (r == q) ≡ false
    → target (put core r bits) q imm ≡ target core q imm
unfolding target
target-other core r q bits imm h = ap (λ (x : Bits). (x.value + imm) % 2 ^ 32) (register-other core r q bits h)

-- ---- jumps

pub linked-other : (core : Core) (next : ℕ) (hint : StackHint) (r rd to : ℕ) (bits : Bits)
    → is_aligned core.isa to && (r == rd) ≡ false
    → linked_jump (put core r bits) next hint rd to ≡ put (linked_jump core next hint rd to) r bits
unfolding linked_jump
linked-other core next hint r rd to bits = go (is_aligned core.isa to)
  where
    link : Bits
    link = known next

    go : (t : Bool) → t && (r == rd) ≡ false
        → cond t (moved_to (set_register (followed (put core r bits) next hint to) rd link) to)
        (stopped (put core r bits) Misaligned)
        ≡ put (cond t (moved_to (set_register (followed core next hint to) rd link) to) (stopped core Misaligned)) r
        bits
    go true h = ap (λ k. moved_to k to) (set-other (followed core next hint to) r rd bits link h)
    go false h = refl

pub linked-stays : (core : Core) (next : ℕ) (hint : StackHint) (r rd to : ℕ)
    → is_aligned core.isa to && (r == rd) ≡ false
    → register (linked_jump core next hint rd to) r ≡ register core r
unfolding linked_jump register
linked-stays core next hint r rd to = go (is_aligned core.isa to)
  where
    link : Bits
    link = known next

    go : (t : Bool) → t && (r == rd) ≡ false
        → register
        (cond t (moved_to (set_register (followed core next hint to) rd link) to) (stopped core Misaligned)) r
        ≡ register core r
    go true h = set-stays (followed core next hint to) r rd link h
    go false h = refl

pub linked-again : (core : Core) (next : ℕ) (hint : StackHint) (r to : ℕ) (bits : Bits) → 1 ≤ r
    → is_aligned core.isa to ≡ true
    → linked_jump (put core r bits) next hint r to ≡ linked_jump core next hint r to
unfolding linked_jump
linked-again core next hint r to bits one h =
    let link = known next in
    ap (λ t. cond t (moved_to (set_register (followed (put core r bits) next hint to) r link) to)
    (stopped (put core r bits) Misaligned)) h
    ∙ ap (λ k. moved_to k to) (set-again (followed core next hint to) r bits link one)
    ∙ ap (λ t. cond t (moved_to (set_register (followed core next hint to) r link) to) (stopped core Misaligned))
    (sym h)

-- ---- branches

pub branch-other : (core : Core) (test : Comparison) (r rs1 rs2 : ℕ) (bits : Bits)
    → (r == rs1) ≡ false → (r == rs2) ≡ false
    → branch_tested (put core r bits) test rs1 rs2 ≡ put (branch_tested core test rs1 rs2) r bits
unfolding branch_tested
branch-other core test r rs1 rs2 bits one two =
    ap₂ (λ x y. cond (is_undecided test x y) (defined (defined (put core r bits) rs1) rs2) (put core r bits))
    (register-other core r rs1 bits one) (register-other core r rs2 bits two)
    ∙ go (is_undecided test (register core rs1) (register core rs2))
  where
    go : (t : Bool) → cond t (defined (defined (put core r bits) rs1) rs2) (put core r bits)
        ≡ put (cond t (defined (defined core rs1) rs2) core) r bits
    go true =
        ap (λ k. defined k rs2) (defined-other core r rs1 bits one) ∙ defined-other (defined core rs1) r rs2 bits two
    go false = refl

pub branch-stays : (core : Core) (test : Comparison) (r rs1 rs2 : ℕ) → (r == rs1) ≡ false → (r == rs2) ≡ false
    → register (branch_tested core test rs1 rs2) r ≡ register core r
unfolding branch_tested
branch-stays core test r rs1 rs2 one two = go (is_undecided test (register core rs1) (register core rs2))
  where
    go : (t : Bool) → register (cond t (defined (defined core rs1) rs2) core) r ≡ register core r
    go true = set-stays (defined core rs1) r rs2 _ two ∙ set-stays core r rs1 _ one
    go false = refl

pub branched-other : (t : Bool) (core : Core) (next r to : ℕ) (bits : Bits)
    → branched t (put core r bits) next to ≡ put (branched t core next to) r bits
unfolding branched jumped
branched-other true core next r to bits = go (is_aligned core.isa to)
  where
    go : (t : Bool) → cond t (moved_to (put core r bits) to) (stopped (put core r bits) Misaligned)
        ≡ put (cond t (moved_to core to) (stopped core Misaligned)) r bits
    go true = refl
    go false = refl
branched-other false core next r to bits = refl

pub branched-stays : (t : Bool) (core : Core) (next r to : ℕ)
    → register (branched t core next to) r ≡ register core r
unfolding branched jumped register
branched-stays true core next r to = go (is_aligned core.isa to)
  where
    go : (t : Bool) → register (cond t (moved_to core to) (stopped core Misaligned)) r ≡ register core r
    go true = refl
    go false = refl
branched-stays false core next r to = refl

-- ---- the stack pointer rule

framed-other : (core : Core) (r low high : ℕ) (kind : RangeKind) (bits : Bits)
    → framed (put core r bits) low high kind ≡ put (framed core low high kind) r bits
unfolding framed
framed-other core r low high kind bits = go _
  where
    n : ℕ
    n = high - low

    go : (t : Bool) → cond t (ranged (put core r bits) low n kind) (put core r bits)
        ≡ put (cond t (ranged core low n kind) core) r bits
    go true = refl
    go false = refl

framed-stays : (core : Core) (r low high : ℕ) (kind : RangeKind)
    → register (framed core low high kind) r ≡ register core r
unfolding framed register
framed-stays core r low high kind = go _
  where
    go : (t : Bool) → register (cond t (ranged core low (high - low) kind) core) r ≡ register core r
    go true = refl
    go false = refl

moved-other : (core : Core) (r old new : ℕ) (bits : Bits)
    → stack_moved (put core r bits) old new ≡ put (stack_moved core old new) r bits
unfolding stack_moved
moved-other core r old new bits = go (nat_lt new old) (nat_lt old new)
  where
    go : (t u : Bool)
        → cond t (framed (put core r bits) new old Undefined)
        (cond u (framed (put core r bits) old new NoAccess) (put core r bits))
        ≡ put (cond t (framed core new old Undefined) (cond u (framed core old new NoAccess) core)) r bits
    go true u = framed-other core r new old Undefined bits
    go false true = framed-other core r old new NoAccess bits
    go false false = refl

moved-stays : (core : Core) (r old new : ℕ) → register (stack_moved core old new) r ≡ register core r
unfolding stack_moved
moved-stays core r old new = go (nat_lt new old) (nat_lt old new)
  where
    go : (t u : Bool)
        → register (cond t (framed core new old Undefined) (cond u (framed core old new NoAccess) core)) r
        ≡ register core r
    go true u = framed-stays core r new old Undefined
    go false true = framed-stays core r old new NoAccess
    go false false = refl

pub ruled-other : (old : Bits) (core : Core) (r : ℕ) (bits : Bits) → (r == 2) ≡ false
    → stack_ruled old (put core r bits) ≡ put (stack_ruled old core) r bits
unfolding stack_ruled
ruled-other old core r bits h =
    let far = put core r bits in
    ap (λ (x : Bits). cond (is_stack_pointer core.stack old && is_stack_pointer core.stack x)
    (stack_moved far old.value x.value) far)
    (register-other core r 2 bits h) ∙ go _
  where
    new : Bits
    new = register core 2

    go : (t : Bool) → cond t (stack_moved (put core r bits) old.value new.value) (put core r bits)
        ≡ put (cond t (stack_moved core old.value new.value) core) r bits
    go true = moved-other core r old.value new.value bits
    go false = refl

pub ruled-stays : (old : Bits) (core : Core) (r : ℕ) → register (stack_ruled old core) r ≡ register core r
unfolding stack_ruled
ruled-stays old core r = go _
  where
    new : Bits
    new = register core 2

    go : (t : Bool) → register (cond t (stack_moved core old.value new.value) core) r ≡ register core r
    go true = moved-stays core r old.value new.value
    go false = refl

-- a stack pointer that stays makes nothing
pub stack-stands : (core : Core) → stack_ruled (register core 2) core ≡ core
unfolding stack_ruled stack_moved
stack-stands core = go _ (register core 2).value
  where
    go : (t : Bool) (v : ℕ) → cond t (stack_moved core v v) core ≡ core
    go true v =
        let none : nat_lt v v ≡ false = grind (arith, nat_tests) in
        ap (λ b. cond b (framed core v v Undefined) (cond b (framed core v v NoAccess) core)) none
    go false v = refl

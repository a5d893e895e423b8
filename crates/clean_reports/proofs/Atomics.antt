-- Effects that agree, of atomic instructions.
use Rattle.std.proofs.Common.{◌≡◌, ℕ, ◌%◌, ◌^◌, ◌<◌, ◌==◌, ◌&&◌, Bool, true, false, cond, refl}
use Rattle.std.proofs.Common.{sym, ap, subst, subst₂, arith, List, [], ◌++◌, Option, Some, None}
use Rattle.definedness.specs.declared.Bits.{Bits}
use Rattle.definedness.specs.Operations.{less_signed, less_unsigned}
use Rattle.definedness.specs.Undefined.{undef_wide}
use Rattle.definedness.proofs.Laws.{wide_law}
use Rattle.error_events.specs.declared.event.Event.{Event}
use Rattle.error_events.specs.declared.kind.Kind.TheVariants.{Read, Write, Value}
use Rattle.shadow_memory.specs.Ranges.{window, byte_of}
use Rattle.instructions.specs.Atomics.{chosen, updated}
use Rattle.instructions.specs.declared.atomic.Atomic.{Atomic}
use Rattle.instructions.specs.declared.atomic.Atomic.TheVariants.{LoadReserved, StoreConditional}
use Rattle.instructions.specs.declared.atomic.Atomic.TheVariants.{Update as Updating}
use Rattle.instructions.specs.declared.atomic.Update.{Update}
use Rattle.instructions.specs.declared.atomic.Update.TheVariants.{Swap, Add, Xor, And, Or}
use Rattle.instructions.specs.declared.atomic.Update.TheVariants.{Min, Max, MinUnsigned, MaxUnsigned}
use Rattle.instructions.specs.declared.instruction.Operation.TheVariants as operations
use Rattle.instructions.specs.declared.width.Width.TheVariants.{Word}
use Rattle.run_values.specs.declared.span.Span.{Span}
use Rattle.run_values.specs.declared.status.Stop.TheVariants.{Illegal, Misaligned}
use Rattle.guest_elf.specs.Profiles.{has_atomics}
use Rattle.guest_machine.specs.State.{Core}
use Rattle.guest_machine.specs.Registers.{known, register, set_register, tested}
use Rattle.guest_machine.specs.Atomics.{admits, admitted, atomic_effect, atomic_reads, atomic_span, atomic_start}
use Rattle.guest_machine.specs.Atomics.{atomic_writes, held_word, is_reserved, is_reserved_by, load_reserved}
use Rattle.guest_machine.specs.Atomics.{not_stored, read_if, reserving, resulting, store_conditional}
use Rattle.guest_machine.specs.Atomics.{update_word, written_if}
use Rattle.guest_machine.specs.Effects.{Effect, moved_to, raising, stopped, stops, store, stored_core}
use Rattle.guest_machine.specs.Errors.{access_errors, value_errors}
use Rattle.guest_machine.specs.Exec.{taken_from}
use Rattle.guest_machine.specs.Spans.{span_at}
use Rattle.clean_reports.specs.Agreement.{ValuesAgree, MemoriesAgree}
use Rattle.clean_reports.specs.Uses.{NoUse}
use Rattle.clean_reports.proofs.Bits.{window-lt, bytes-of}
use Rattle.clean_reports.proofs.Values.{known-agrees, computed-agree}
use Rattle.clean_reports.proofs.Memory.{accessible-from, numbers-agree, stored-agrees, byte-lt, window-bytes}
use Rattle.clean_reports.proofs.Memory.{window-past}
use Rattle.clean_reports.proofs.Registers.{Held, HeldAgree, held-of, swap, set-in, set-in-agrees, register-agrees}
use Rattle.clean_reports.proofs.Registers.{IsKnown, other-known}
use Rattle.clean_reports.proofs.Registers.{left-none, right-none, known-by, no-errors, tested-same}
use Rattle.clean_reports.proofs.Effects.{EffectsAgree, NoneBad, none-about, halts, loads, moves, same-target, stores}

-- ---- what an atomic memory operation stores

-- which of two words are chosen
abbrev pick : (ℕ → ℕ → Bool) → ℕ → ℕ → ℕ
pick first a b = cond (first a b) a b

pick-lt : (first : ℕ → ℕ → Bool) (a b : ℕ) → a < 2 ^ 32 → b < 2 ^ 32 → pick first a b < 2 ^ 32
pick-lt first a b h k = go (first a b)
  where
    go : (p : Bool) → cond p a b < 2 ^ 32
    go true = h
    go false = k

wide-same : (x y u v : Bits) → x.undef ≡ u.undef → y.undef ≡ v.undef → undef_wide x y ≡ undef_wide u v
unfolding undef_wide
wide-same x y u v a b =
    λ i. undef_wide (record { value = x.value; undef = a i }) (record { value = y.value; undef = b i })

chosen-agree : (first : ℕ → ℕ → Bool) (x y u v : Bits) → ValuesAgree x u → ValuesAgree y v
    → ValuesAgree (chosen (first x.value y.value) x y) (chosen (first u.value v.value) u v)
chosen-agree first x y u v a b = record {
  undef = wide-same x y u v a.undef b.undef;
  value = wide_law (pick first) x y _ a.one b.one refl u.value v.value a.other b.other a.value b.value;
  one = pick-lt first x.value y.value a.one b.one;
  other = pick-lt first u.value v.value a.other b.other;
}

updated-agree : (update : Update) (x y u v : Bits) → ValuesAgree x u → ValuesAgree y v
    → ValuesAgree (updated update x y) (updated update u v)
unfolding updated
updated-agree Swap x y u v a b = b
updated-agree Add x y u v a b = computed-agree operations.Add x y u v a b
updated-agree Xor x y u v a b = computed-agree operations.Xor x y u v a b
updated-agree And x y u v a b = computed-agree operations.And x y u v a b
updated-agree Or x y u v a b = computed-agree operations.Or x y u v a b
updated-agree Min x y u v a b = chosen-agree less_signed x y u v a b
updated-agree Max x y u v a b = chosen-agree (λ m n. less_signed n m) y x v u b a
updated-agree MinUnsigned x y u v a b = chosen-agree less_unsigned x y u v a b
updated-agree MaxUnsigned x y u v a b = chosen-agree (λ m n. less_unsigned n m) y x v u b a

-- ---- more of an effect

module _ {f g : ℕ → ℕ} {u v : Option Span} {e h : Effect} (x : EffectsAgree f g u v e h) where
  reserves : (at to : Option ℕ) → at ≡ to → EffectsAgree f g u v (reserving at e) (reserving to h)
  reserves at to same = record {
    registers = x.registers;
    core = λ i. record (x.core i) { reserved = sym same i };
    agree = x.agree;
    raised = x.raised;
    output = x.output;
    memory = x.memory;
  }

  leaves-number : (rd n : ℕ) → n < 2 ^ 32 → EffectsAgree f g u v (resulting rd n e) (resulting rd n h)
  unfolding set_register
  leaves-number rd n small = record {
    registers = set-in x.registers rd (known n);
    core = ap (λ k. set_register k rd (known n)) x.core;
    agree = set-in-agrees (held-of e.core) x.registers x.agree rd (known n) (known n) (known-agrees n small);
    raised = x.raised;
    output = x.output;
    memory = x.memory;
  }

-- ---- the instructions

-- what an operation leaves, by the core after the test, the test's errors and the address
abbrev update-by : Core → ℕ → List Event → ℕ → Update → ℕ → ℕ → (ℕ → ℕ) → Effect
update-by now next es start update rd rs2 taken =
    let held = held_word now start taken in
    let new = updated update held (register now rs2) in
    record {
      core = moved_to (set_register (stored_core now start 4 new.undef) rd held) next;
      raised = es ++ (access_errors now (Read 4) start 4 ++ access_errors now (Write 4) start 4);
      made = byte_of new.value;
      output = [];
    }

module _ (c : Core) (qs : Held) (a : HeldAgree (held-of c) qs) (f g : ℕ → ℕ)
    (m : MemoriesAgree c.shadow f g) (next : ℕ) (fits : next < 2 ^ 32) where
  held-agree : (start : ℕ) → NoneBad c start 4
      → ValuesAgree (held_word c start (window f start 4)) (held_word (swap c qs) start (window g start 4))
  held-agree start opened = record {
    undef = refl;
    value = numbers-agree c.shadow f g m start 4 (accessible-from c.shadow start 4 opened);
    one = window-lt Word (window f start 4) (window-bytes f start 4 m.one) (λ i past. window-past f start 4 i past);
    other = window-lt Word (window g start 4) (window-bytes g start 4 m.other) (λ i past. window-past g start 4 i past);
  }

  updates-by : (update : Update) (rd rs2 start : ℕ) → NoneBad c start 4
      → EffectsAgree f g (Some (span_at start 4)) (Some (span_at start 4))
      (update-by c next [] start update rd rs2 (window f start 4))
      (update-by (swap c qs) next [] start update rd rs2 (window g start 4))
  unfolding set_register
  updates-by update rd rs2 start opened =
      let held = held_word c start (window f start 4) in
      let held' = held_word (swap c qs) start (window g start 4) in
      let holds = held-agree start opened in
      let new = updated update held (register c rs2) in
      let new' = updated update held' (register (swap c qs) rs2) in
      let news = updated-agree update held (register c rs2) held' (register (swap c qs) rs2) holds
      (register-agrees c qs a rs2) in
      record {
        registers = set-in qs rd held';
        core = λ i. moved_to (set_register (stored_core (swap c qs) start 4 (sym news.undef i)) rd held') next;
        agree = set-in-agrees (held-of c) qs a rd held held' holds;
        raised = refl;
        output = refl;
        memory = stored-agrees c.shadow f g m start 4 new.undef (byte_of new.value) (byte_of new'.value)
            (λ i h. bytes-of new.undef new.value new'.value news.value i h) (byte-lt new.value) (byte-lt new'.value);
      }

  -- where the operand is defined, the address is the same
  module _ (rs1 : ℕ) (one : IsKnown c rs1) where
    other : IsKnown (swap c qs) rs1
    other = other-known c qs a rs1 one

    start-same : atomic_start c rs1 ≡ atomic_start (swap c qs) rs1
    start-same = same-target c qs a f g m next fits rs1 0 one

    reserved-same : is_reserved c rs1 ≡ is_reserved (swap c qs) rs1
    unfolding is_reserved
    reserved-same = ap (is_reserved_by c.reserved) start-same

    aligned-same : (atomic_start c rs1 % 4 == 0) ≡ (atomic_start (swap c qs) rs1 % 4 == 0)
    aligned-same = ap (λ n. n % 4 == 0) start-same

  updates : (update : Update) (rd rs1 rs2 : ℕ)
      → NoUse (update_word c next update rd rs1 rs2 (taken_from f (Some (atomic_span c rs1)))).raised
      → EffectsAgree f g (Some (atomic_span c rs1)) (Some (atomic_span (swap c qs) rs1))
      (update_word c next update rd rs1 rs2 (taken_from f (Some (atomic_span c rs1))))
      (update_word (swap c qs) next update rd rs1 rs2 (taken_from g (Some (atomic_span (swap c qs) rs1))))
  updates update rd rs1 rs2 none =
      let start = atomic_start c rs1 in
      let one = known-by c rs1 Value refl (left-none _ _ none) in
      let two = other rs1 one in
      let same = tested-same c rs1 one in
      let opened : NoneBad c start 4 = none-about c 4 start 4
      (left-none _ _ (subst (λ now. NoUse (access_errors now (Read 4) start 4 ++ access_errors now (Write 4) start 4))
      same (right-none (value_errors c rs1) _ none))) in
      let P : Core → Core → List Event → List Event → ℕ → Type 0 = λ now then es others to.
      EffectsAgree f g (Some (span_at start 4)) (Some (span_at to 4))
      (update-by now next es start update rd rs2 (window f start 4))
      (update-by then next others to update rd rs2 (window g to 4)) in
      let there = subst (λ t. P c (swap c qs) [] [] t) (start-same rs1 one)
      (updates-by update rd rs2 start opened) in
      let tests = subst₂ (λ x y. P x y [] [] (atomic_start (swap c qs) rs1)) (sym same)
      (sym (tested-same (swap c qs) rs1 two)) there in
      subst₂ (λ x y. P (tested c rs1) (tested (swap c qs) rs1) x y (atomic_start (swap c qs) rs1))
      (sym (no-errors c rs1 Value one)) (sym (no-errors (swap c qs) rs1 Value two)) tests

  reserved-loads : (rd rs1 : ℕ)
      → NoUse (load_reserved c next rd rs1 (taken_from f (Some (atomic_span c rs1)))).raised
      → EffectsAgree f g None None
      (load_reserved c next rd rs1 (taken_from f (Some (atomic_span c rs1))))
      (load_reserved (swap c qs) next rd rs1 (taken_from g (Some (atomic_span (swap c qs) rs1))))
  reserved-loads rd rs1 none =
      let one = known-by c rs1 Value refl (left-none _ _ none) in
      reserves (loads c qs a f g m next fits Word true rd rs1 0 none) _ _ (ap Some (start-same rs1 one))

  -- an effect after the test of the operand alone
  after-tests : (rs1 : ℕ) (one : IsKnown c rs1) (make : Core → Core)
      → EffectsAgree f g None None (raising (make c) []) (raising (make (swap c qs)) [])
      → EffectsAgree f g None None (raising (make (tested c rs1)) (value_errors c rs1))
      (raising (make (tested (swap c qs) rs1)) (value_errors (swap c qs) rs1))
  after-tests rs1 one make at =
      let two = other rs1 one in
      subst₂ (λ e h. EffectsAgree f g None None e h)
      (λ i. raising (make (sym (tested-same c rs1 one) i)) (sym (no-errors c rs1 Value one) i))
      (λ i. raising (make (sym (tested-same (swap c qs) rs1 two) i)) (sym (no-errors (swap c qs) rs1 Value two) i)) at

  -- the two ends of a store on condition, of either core
  abbrev stored : Core → ℕ → ℕ → ℕ → Effect
  stored d rd rs1 rs2 = resulting rd 0 (store d next Word rs1 rs2 0)

  abbrev passed : Core → ℕ → ℕ → Effect
  passed d rd rs1 = resulting rd 1 (not_stored d next rs1)

  conditional-stores : (rd rs1 rs2 : ℕ) → IsKnown c rs1 → NoUse (store_conditional c next rd rs1 rs2).raised
      → EffectsAgree f g (cond (is_reserved c rs1) (Some (atomic_span c rs1)) None)
      (cond (is_reserved (swap c qs) rs1) (Some (atomic_span (swap c qs) rs1)) None)
      (store_conditional c next rd rs1 rs2) (store_conditional (swap c qs) next rd rs1 rs2)
  conditional-stores rd rs1 rs2 one none =
      go (is_reserved c rs1) (is_reserved (swap c qs) rs1) (reserved-same rs1 one) none
    where
      go : (p q : Bool) → p ≡ q → NoUse (reserving None (cond p (stored c rd rs1 rs2) (passed c rd rs1))).raised
          → EffectsAgree f g (cond p (Some (atomic_span c rs1)) None) (cond q (Some (atomic_span (swap c qs) rs1)) None)
          (reserving None (cond p (stored c rd rs1 rs2) (passed c rd rs1)))
          (reserving None (cond q (stored (swap c qs) rd rs1 rs2) (passed (swap c qs) rd rs1)))
      go true true same clean =
          reserves (leaves-number (stores c qs a f g m next fits Word rs1 rs2 0 clean) rd 0 (omega arith)) None None
          refl
      go false false same clean =
          reserves (leaves-number (after-tests rs1 one (λ k. moved_to k next) (moves c qs a f g m next fits next []))
          rd 1 (omega arith)) None None refl
      go true false same clean = cc
      go false true same clean = cc

  -- one that is carried out tests its operand first
  first-tested : (atomic : Atomic) (rd rs1 rs2 : ℕ) (taken : ℕ → ℕ)
      → NoUse (admitted c next atomic rd rs1 rs2 taken).raised → IsKnown c rs1
  first-tested LoadReserved rd rs1 rs2 taken none = known-by c rs1 Value refl (left-none _ _ none)
  first-tested StoreConditional rd rs1 rs2 taken none =
      go (is_reserved c rs1) none
    where
      go : (p : Bool)
          → NoUse (cond p (stored c rd rs1 rs2) (passed c rd rs1)).raised
          → IsKnown c rs1
      go true clean = known-by c rs1 Value refl (left-none _ _ clean)
      go false clean = known-by c rs1 Value refl clean
  first-tested (Updating update) rd rs1 rs2 taken none = known-by c rs1 Value refl (left-none _ _ none)

  carried-out : (atomic : Atomic) (rd rs1 rs2 : ℕ)
      → NoUse (admitted c next atomic rd rs1 rs2 (taken_from f (read_if atomic (atomic_span c rs1)))).raised
      → EffectsAgree f g (written_if (is_reserved c rs1) atomic (atomic_span c rs1))
      (written_if (is_reserved (swap c qs) rs1) atomic (atomic_span (swap c qs) rs1))
      (admitted c next atomic rd rs1 rs2 (taken_from f (read_if atomic (atomic_span c rs1))))
      (admitted (swap c qs) next atomic rd rs1 rs2 (taken_from g (read_if atomic (atomic_span (swap c qs) rs1))))
  carried-out LoadReserved rd rs1 rs2 none = reserved-loads rd rs1 none
  carried-out StoreConditional rd rs1 rs2 none =
      conditional-stores rd rs1 rs2 (first-tested StoreConditional rd rs1 rs2 (taken_from f None) none) none
  carried-out (Updating update) rd rs1 rs2 none = updates update rd rs1 rs2 none

  -- an atomic instruction, by whether there are such instructions and whether the address is a multiple of 4
  abbrev leaves : Core → (ℕ → ℕ) → Atomic → ℕ → ℕ → ℕ → Bool → Bool → Effect
  leaves d h atomic rd rs1 rs2 has aligned =
      cond (has && aligned)
      (admitted d next atomic rd rs1 rs2
      (taken_from h (cond (has && aligned) (read_if atomic (atomic_span d rs1)) None)))
      (cond has (raising (stopped (tested d rs1) Misaligned) (value_errors d rs1)) (stops d Illegal))

  abbrev writes : Core → Atomic → ℕ → Bool → Bool → Option Span
  writes d atomic rs1 has aligned =
      cond (has && aligned) (written_if (is_reserved d rs1) atomic (atomic_span d rs1)) None

  pub atomics-agree : (atomic : Atomic) (rd rs1 rs2 : ℕ)
      → NoUse (atomic_effect c next atomic rd rs1 rs2 (taken_from f (atomic_reads c atomic rs1))).raised
      → EffectsAgree f g (atomic_writes c atomic rs1) (atomic_writes (swap c qs) atomic rs1)
      (atomic_effect c next atomic rd rs1 rs2 (taken_from f (atomic_reads c atomic rs1)))
      (atomic_effect (swap c qs) next atomic rd rs1 rs2 (taken_from g (atomic_reads (swap c qs) atomic rs1)))
  unfolding atomic_effect atomic_reads atomic_writes admits
  atomics-agree atomic rd rs1 rs2 none =
      go (has_atomics c.isa) (atomic_start c rs1 % 4 == 0) (atomic_start (swap c qs) rs1 % 4 == 0)
      (λ one. aligned-same rs1 one) none
    where
      go : (has p q : Bool) → (IsKnown c rs1 → p ≡ q) → NoUse (leaves c f atomic rd rs1 rs2 has p).raised
          → EffectsAgree f g (writes c atomic rs1 has p) (writes (swap c qs) atomic rs1 has q)
          (leaves c f atomic rd rs1 rs2 has p) (leaves (swap c qs) g atomic rd rs1 rs2 has q)
      go false p q same clean = halts c qs a f g m next fits Illegal []
      go true true true same clean = carried-out atomic rd rs1 rs2 clean
      go true true false same clean = let e = same (first-tested atomic rd rs1 rs2 _ clean) in cc
      go true false true same clean = let e = same (known-by c rs1 Value refl clean) in cc
      go true false false same clean =
          after-tests rs1 (known-by c rs1 Value refl clean) (λ k. stopped k Misaligned)
          (halts c qs a f g m next fits Misaligned [])

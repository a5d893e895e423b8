-- Effects with fewer undefined bits, of atomic instructions.
use Rattle.std.proofs.Common.{◌≡◌, ℕ, ◌%◌, ◌==◌, ◌&&◌, Bool, true, false, cond, refl}
use Rattle.std.proofs.Common.{sym, ap, List, [], ◌++◌, Option, Some, None}
use Rattle.definedness.specs.declared.Bits.{Bits}
use Rattle.definedness.specs.Operations.{less_signed, less_unsigned}
use Rattle.error_events.specs.declared.event.Event.{Event}
use Rattle.error_events.specs.declared.kind.Kind.TheVariants.{Read, Write, Value}
use Rattle.shadow_memory.specs.Ranges.{byte_of}
use Rattle.shadow_memory.specs.Shadows.{stored_undef}
use Rattle.instructions.specs.Atomics.{chosen, updated}
use Rattle.instructions.specs.declared.atomic.Atomic.{Atomic}
use Rattle.instructions.specs.declared.atomic.Atomic.TheVariants.{LoadReserved, StoreConditional}
use Rattle.instructions.specs.declared.atomic.Atomic.TheVariants.{Update as Updating}
use Rattle.instructions.specs.declared.atomic.Update.{Update}
use Rattle.instructions.specs.declared.atomic.Update.TheVariants.{Swap, Add, Xor, And, Or}
use Rattle.instructions.specs.declared.atomic.Update.TheVariants.{Min, Max, MinUnsigned, MaxUnsigned}
use Rattle.instructions.specs.declared.instruction.Operation.TheVariants as operations
use Rattle.instructions.specs.declared.width.Width.TheVariants.{Word}
use Rattle.run_values.specs.declared.status.Stop.TheVariants.{Illegal, Misaligned}
use Rattle.guest_elf.specs.Profiles.{has_atomics}
use Rattle.guest_machine.specs.State.{Core}
use Rattle.guest_machine.specs.Registers.{known, register, set_register, tested}
use Rattle.guest_machine.specs.Atomics.{admits, admitted, atomic_effect, atomic_start}
use Rattle.guest_machine.specs.Atomics.{held_word, is_reserved, is_reserved_by}
use Rattle.guest_machine.specs.Atomics.{not_stored, reserving, resulting, store_conditional, update_word}
use Rattle.guest_machine.specs.Effects.{Effect, moved_to, raising, stopped, stops, store, stored_core}
use Rattle.guest_machine.specs.Errors.{access_errors, value_errors}
use Rattle.any_runs.specs.Sharper.{Sharper}
use Rattle.clean_reports.specs.Uses.{NoUse}
use Rattle.any_runs.proofs.Mono.{computed-sharper, wide-sharper}
use Rattle.any_runs.proofs.Memory.{stored-sharper, bytes-within, taken-within, window-lt8, window-past, undef-window}
use Rattle.clean_reports.proofs.Bits.{window-lt}
use Rattle.any_runs.proofs.Held.{Held, HeldSharper, held-of, swap, set-in, shaded, set-in-sharper, register-sharper}
use Rattle.any_runs.proofs.Held.{known-sharper, other-known}
use Rattle.any_runs.proofs.Tests.{IsKnown, left-none, known-by, no-errors, tested-same}
use Rattle.any_runs.proofs.Effects.{EffectsSharper, carried, alike, loads, moves, same-access, same-target, stores}

-- ---- what an atomic memory operation stores

-- one of two numbers, chosen by two others that are equal
chosen-sharper : (first : ℕ → ℕ → Bool) (x y u v : Bits) → Sharper x u → Sharper y v
    → Sharper (chosen (first x.value y.value) x y) (chosen (first u.value v.value) u v)
chosen-sharper first x y u v a b =
    let wide = wide-sharper x y u v a b in
    record {
      value = λ i. cond (first (a.value i) (b.value i)) (a.value i) (b.value i);
      undef = wide.0;
      small = wide.1;
    }

updated-sharper : (update : Update) (x y u v : Bits) → Sharper x u → Sharper y v
    → Sharper (updated update x y) (updated update u v)
unfolding updated
updated-sharper Swap x y u v a b = b
updated-sharper Add x y u v a b = computed-sharper operations.Add x y u v a b
updated-sharper Xor x y u v a b = computed-sharper operations.Xor x y u v a b
updated-sharper And x y u v a b = computed-sharper operations.And x y u v a b
updated-sharper Or x y u v a b = computed-sharper operations.Or x y u v a b
updated-sharper Min x y u v a b = chosen-sharper less_signed x y u v a b
updated-sharper Max x y u v a b = chosen-sharper (λ m n. less_signed n m) y x v u b a
updated-sharper MinUnsigned x y u v a b = chosen-sharper less_unsigned x y u v a b
updated-sharper MaxUnsigned x y u v a b = chosen-sharper (λ m n. less_unsigned n m) y x v u b a

-- ---- more of an effect

module _ {e h : Effect} (x : EffectsSharper e h) where
  reserves : (at to : Option ℕ) → at ≡ to → EffectsSharper (reserving at e) (reserving to h)
  reserves at to same = record {
    held = x.held;
    core = λ i. record (x.core i) { reserved = sym same i };
    agree = x.agree;
    raised = x.raised;
    made = x.made;
    output = x.output;
  }

  leaves-number : (rd n : ℕ) → EffectsSharper (resulting rd n e) (resulting rd n h)
  unfolding set_register
  leaves-number rd n = record {
    held = set-in x.held rd (known n);
    core = ap (λ k. set_register k rd (known n)) x.core;
    agree = set-in-sharper (held-of e.core) x.held x.agree rd (known n) (known n) (known-sharper n);
    raised = x.raised;
    made = x.made;
    output = x.output;
  }

-- ---- the instructions

-- what an operation leaves, by the core after the test, the test's errors and the address
abbrev update-by : Core → ℕ → List Event → ℕ → Update → ℕ → ℕ → (ℕ → ℕ) → Effect
update-by now next es start update rd rs2 taken =
    let held = held_word now start taken in
    let new = updated update held (register now rs2) in
    record {
      core = moved_to (set_register (stored_core now start 4 new.undef) rd held) next;
      raised = es ++ (access_errors now (Read 4) start 4 ++ access_errors now (Write 4) start 4);
      made = byte_of new.value;
      output = [];
    }

module _ (c : Core) (qs : Held) (a : HeldSharper (held-of c) qs) (next : ℕ) where
  abbrev d : Core
  d = swap c qs

  held-sharper : (start : ℕ) (taken : ℕ → ℕ) → Sharper (held_word c start taken) (held_word d start taken)
  held-sharper start taken = record {
    value = refl;
    undef = taken-within c.shadow qs.shadow a.shadow start 4;
    small = window-lt Word (undef-window qs.shadow start 4) (window-lt8 qs.shadow (λ k. (a.shadow k).other) start 4)
        (λ i past. window-past qs.shadow start 4 i past);
  }

  updates-by : (update : Update) (rd rs2 start : ℕ) (taken : ℕ → ℕ)
      → EffectsSharper (update-by c next [] start update rd rs2 taken) (update-by d next [] start update rd rs2 taken)
  unfolding set_register
  updates-by update rd rs2 start taken =
      let held = held_word c start taken in
      let held' = held_word d start taken in
      let holds = held-sharper start taken in
      let new = updated update held (register c rs2) in
      let new' = updated update held' (register d rs2) in
      let news = updated-sharper update held (register c rs2) held' (register d rs2) holds
      (register-sharper c qs a rs2) in
      let g = stored_undef qs.shadow start 4 new'.undef in
      let now : HeldSharper (held-of (stored_core c start 4 new.undef)) (shaded qs g) = record {
        registers = a.registers;
        controls = a.controls;
        shadow = stored-sharper c.shadow qs.shadow a.shadow start 4 new.undef new'.undef
            (λ i h. bytes-within _ _ news.undef i h);
      } in
      record {
        held = set-in (shaded qs g) rd held';
        core = refl;
        agree = set-in-sharper (held-of (stored_core c start 4 new.undef)) (shaded qs g) now rd held held' holds;
        raised = λ i. same-access c qs a next (Read 4) start 4 i ++ same-access c qs a next (Write 4) start 4 i;
        made = ap byte_of news.value;
        output = refl;
      }

  pub start-same : (rs1 : ℕ) → atomic_start c rs1 ≡ atomic_start d rs1
  start-same rs1 = same-target c qs a next rs1 0

  pub reserved-same : (rs1 : ℕ) → is_reserved c rs1 ≡ is_reserved d rs1
  unfolding is_reserved
  reserved-same rs1 = ap (is_reserved_by c.reserved) (start-same rs1)

  pub admits-same : (rs1 : ℕ) → admits c rs1 ≡ admits d rs1
  unfolding admits
  admits-same rs1 = ap (λ n. has_atomics c.isa && (n % 4 == 0)) (start-same rs1)

  updates : (update : Update) (rd rs1 rs2 : ℕ) (taken : ℕ → ℕ)
      → NoUse (update_word c next update rd rs1 rs2 taken).raised
      → EffectsSharper (update_word c next update rd rs1 rs2 taken) (update_word d next update rd rs1 rs2 taken)
  updates update rd rs1 rs2 taken none =
      let one = known-by c rs1 Value refl (left-none _ _ none) in
      let two = other-known c qs a rs1 one in
      carried _ _ _ _
      (λ i. update-by (sym (tested-same c rs1 one) i) next (sym (no-errors c rs1 Value one) i) (atomic_start c rs1)
      update rd rs2 taken)
      (λ i. update-by (sym (tested-same d rs1 two) i) next (sym (no-errors d rs1 Value two) i) (start-same rs1 i)
      update rd rs2 taken)
      (updates-by update rd rs2 (atomic_start c rs1) taken)

  -- an effect after the test of the operand alone
  after-one : (rs1 : ℕ) (one : IsKnown c rs1) (make : Core → Core)
      → EffectsSharper (raising (make c) []) (raising (make d) [])
      → EffectsSharper (raising (make (tested c rs1)) (value_errors c rs1))
      (raising (make (tested d rs1)) (value_errors d rs1))
  after-one rs1 one make at =
      let two = other-known c qs a rs1 one in
      carried _ _ _ _
      (λ i. raising (make (sym (tested-same c rs1 one) i)) (sym (no-errors c rs1 Value one) i))
      (λ i. raising (make (sym (tested-same d rs1 two) i)) (sym (no-errors d rs1 Value two) i)) at

  -- the two ends of a store on condition, of either core
  abbrev stored : Core → ℕ → ℕ → ℕ → Effect
  stored k rd rs1 rs2 = resulting rd 0 (store k next Word rs1 rs2 0)

  abbrev passed : Core → ℕ → ℕ → Effect
  passed k rd rs1 = resulting rd 1 (not_stored k next rs1)

  conditional-stores : (rd rs1 rs2 : ℕ) → NoUse (store_conditional c next rd rs1 rs2).raised
      → EffectsSharper (store_conditional c next rd rs1 rs2) (store_conditional d next rd rs1 rs2)
  conditional-stores rd rs1 rs2 none =
      carried _ _ _ _ refl
      (ap (λ b. reserving None (cond b (stored d rd rs1 rs2) (passed d rd rs1))) (reserved-same rs1))
      (go (is_reserved c rs1) none)
    where
      go : (p : Bool) → NoUse (reserving None (cond p (stored c rd rs1 rs2) (passed c rd rs1))).raised
          → EffectsSharper (reserving None (cond p (stored c rd rs1 rs2) (passed c rd rs1)))
          (reserving None (cond p (stored d rd rs1 rs2) (passed d rd rs1)))
      go true clean = reserves (leaves-number (stores c qs a next Word rs1 rs2 0 clean) rd 0) None None refl
      go false clean =
          reserves (leaves-number (after-one rs1 (known-by c rs1 Value refl clean) (λ k. moved_to k next)
          (moves c qs a next next [])) rd 1) None None refl

  carried-out : (atomic : Atomic) (rd rs1 rs2 : ℕ) (taken : ℕ → ℕ)
      → NoUse (admitted c next atomic rd rs1 rs2 taken).raised
      → EffectsSharper (admitted c next atomic rd rs1 rs2 taken) (admitted d next atomic rd rs1 rs2 taken)
  carried-out LoadReserved rd rs1 rs2 taken none =
      reserves (loads c qs a next Word true rd rs1 0 taken none) _ _ (ap Some (start-same rs1))
  carried-out StoreConditional rd rs1 rs2 taken none = conditional-stores rd rs1 rs2 none
  carried-out (Updating update) rd rs1 rs2 taken none = updates update rd rs1 rs2 taken none

  -- an atomic instruction, by whether there are such instructions and whether the address is a multiple of 4
  abbrev leaves : Core → Atomic → ℕ → ℕ → ℕ → (ℕ → ℕ) → Bool → Effect
  leaves k atomic rd rs1 rs2 taken admitted-too =
      cond admitted-too (admitted k next atomic rd rs1 rs2 taken)
      (cond (has_atomics k.isa) (raising (stopped (tested k rs1) Misaligned) (value_errors k rs1)) (stops k Illegal))

  pub atomics-sharper : (atomic : Atomic) (rd rs1 rs2 : ℕ) (taken : ℕ → ℕ)
      → NoUse (atomic_effect c next atomic rd rs1 rs2 taken).raised
      → EffectsSharper (atomic_effect c next atomic rd rs1 rs2 taken) (atomic_effect d next atomic rd rs1 rs2 taken)
  unfolding atomic_effect
  atomics-sharper atomic rd rs1 rs2 taken none =
      carried _ _ _ _ refl (ap (leaves d atomic rd rs1 rs2 taken) (admits-same rs1))
      (go (admits c rs1) (has_atomics c.isa) none)
    where
      go : (p has : Bool)
          → NoUse (cond p (admitted c next atomic rd rs1 rs2 taken)
          (cond has (raising (stopped (tested c rs1) Misaligned) (value_errors c rs1)) (stops c Illegal))).raised
          → EffectsSharper (cond p (admitted c next atomic rd rs1 rs2 taken)
          (cond has (raising (stopped (tested c rs1) Misaligned) (value_errors c rs1)) (stops c Illegal)))
          (cond p (admitted d next atomic rd rs1 rs2 taken)
          (cond has (raising (stopped (tested d rs1) Misaligned) (value_errors d rs1)) (stops d Illegal)))
      go true has clean = carried-out atomic rd rs1 rs2 taken clean
      go false true clean =
          after-one rs1 (known-by c rs1 Value refl clean) (λ k. stopped k Misaligned)
          (alike c qs a next (λ k. stopped k Misaligned) [] refl refl)
      go false false clean = alike c qs a next (λ k. stopped k Illegal) [] refl refl

-- The stack pointer rule, where the stack pointer is defined, and the fetched code.
use Rattle.std.proofs.Common.{◌≡◌, ℕ, ◌-◌, ◌&&◌, Bool, true, false, cond, refl, sym, ap, ◌∙◌, subst, nat_le, nat_lt}
use Rattle.std.proofs.Common.{List, slice_index_or}
use Rattle.definedness.specs.declared.Bits.{Bits}
use Rattle.shadow_memory.specs.Shadows.{made_so}
use Rattle.shadow_memory.specs.declared.cells.RangeKind.{RangeKind}
use Rattle.shadow_memory.specs.declared.cells.RangeKind.TheVariants.{NoAccess, Undefined}
use Rattle.guest_machine.specs.State.{Core}
use Rattle.guest_machine.specs.Registers.{register, known as zeroed}
use Rattle.guest_machine.specs.StackPointer.{is_stack_pointer, framed, stack_moved, stack_ruled}
use Rattle.guest_machine.specs.StackPointer.{largest_frame, ranged}
use Rattle.any_runs.proofs.Memory.{made-sharper}
use Rattle.any_runs.proofs.Held.{Held, HeldSharper, held-of, swap, shaded, same-bits}
use Rattle.any_runs.proofs.Tests.{IsKnown}

-- a change of shadows in both cores
pub record Reshades (e h : Core) : Type 0 where
  pub held : Held
  pub core : h ≡ swap e held
  pub agree : HeldSharper (held-of e) held

module _ (c : Core) (qs : Held) (a : HeldSharper (held-of c) qs) where
  abbrev d : Core
  d = swap c qs

  unshaded : Reshades c d
  unshaded = record { held = qs; core = refl; agree = a }

  frames : (low high : ℕ) (kind : RangeKind) → Reshades (framed c low high kind) (framed d low high kind)
  unfolding framed unshaded
  frames low high kind = go (nat_le (high - low) largest_frame)
    where
      go : (b : Bool) → Reshades (cond b (ranged c low (high - low) kind) c) (cond b (ranged d low (high - low) kind) d)
      go true = record {
        held = shaded qs (made_so qs.shadow low (high - low) kind);
        core = refl;
        agree = record {
          registers = a.registers;
          controls = a.controls;
          shadow = made-sharper c.shadow qs.shadow a.shadow low (high - low) kind;
        };
      }
      go false = unshaded

  moved : (old new : ℕ) → Reshades (stack_moved c old new) (stack_moved d old new)
  unfolding stack_moved
  moved old new = go (nat_lt new old) (nat_lt old new)
    where
      go : (b t : Bool) → Reshades
          (cond b (framed c new old Undefined) (cond t (framed c old new NoAccess) c))
          (cond b (framed d new old Undefined) (cond t (framed d old new NoAccess) d))
      go true t = frames new old Undefined
      go false true = frames old new NoAccess
      go false false = unshaded

  -- with the stack pointers before the instruction, which are equal
  pub rules : (x y : Bits) → x ≡ y → IsKnown c 2 → Reshades (stack_ruled x c) (stack_ruled y d)
  unfolding stack_ruled
  rules x y old known =
      let new = same-bits c qs a 2 known in
      subst (λ (k : Core). Reshades (stack_ruled x c) k)
      (λ i. cond (is_stack_pointer c.stack (old i) && is_stack_pointer c.stack (new i))
      (stack_moved d (old i).value (new i).value) d)
      (go (is_stack_pointer c.stack x && is_stack_pointer c.stack (register c 2)))
    where
      go : (t : Bool) → Reshades (cond t (stack_moved c x.value (register c 2).value) c)
          (cond t (stack_moved d x.value (register c 2).value) d)
      go true = moved x.value (register c 2).value
      go false = unshaded

-- the rule leaves the registers
pub ruled-registers : (x : Bits) (k : Core) → (stack_ruled x k).registers ≡ k.registers
unfolding stack_ruled stack_moved framed
ruled-registers x k =
    go (is_stack_pointer k.stack x && is_stack_pointer k.stack (register k 2)) x.value (register k 2).value
  where
    range : (b : Bool) (low n : ℕ) (kind : RangeKind) → (cond b (ranged k low n kind) k).registers ≡ k.registers
    range true low n kind = refl
    range false low n kind = refl

    move : (b t : Bool) (old new : ℕ)
        → (cond b (cond (nat_le (old - new) largest_frame) (ranged k new (old - new) Undefined) k)
        (cond t (cond (nat_le (new - old) largest_frame) (ranged k old (new - old) NoAccess) k) k)).registers
        ≡ k.registers
    move true t old new = range (nat_le (old - new) largest_frame) new (old - new) Undefined
    move false true old new = range (nat_le (new - old) largest_frame) old (new - old) NoAccess
    move false false old new = refl

    go : (t : Bool) (old new : ℕ) → (cond t (stack_moved k old new) k).registers ≡ k.registers
    go true old new = move (nat_lt new old) (nat_lt old new) old new
    go false old new = refl

pub ruled-known : (x : Bits) (k : Core) → IsKnown (stack_ruled x k) 2 → IsKnown k 2
unfolding register
ruled-known x k known =
    ap (λ (rs : List Bits). (slice_index_or rs 2 (zeroed 0)).undef) (sym (ruled-registers x k)) ∙ known

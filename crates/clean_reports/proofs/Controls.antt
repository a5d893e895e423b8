-- Effects that agree, of instructions of control registers, of a fence of fetches and of a wait for an interrupt.
use Rattle.std.proofs.Common.{ℕ, ◌/◌, ◌%◌, ◌^◌, ◌<◌, ◌==◌, ◌&&◌, ◌||◌, not, Bool, true, false, cond, refl, arith}
use Rattle.std.proofs.Common.{[], None}
use Rattle.definedness.specs.declared.Bits.{Bits}
use Rattle.guest_elf.specs.Profiles.{has_controls}
use Rattle.instructions.specs.Controls.{complement, replaced, writes}
use Rattle.instructions.specs.declared.control.ControlAccess.{ControlAccess}
use Rattle.instructions.specs.declared.control.ControlAccess.TheVariants.{Write, Set, Clear}
use Rattle.instructions.specs.declared.control.ControlOperand.{ControlOperand}
use Rattle.instructions.specs.declared.control.ControlOperand.TheVariants.{Register, Immediate}
use Rattle.instructions.specs.declared.instruction.Operation.TheVariants as operations
use Rattle.run_values.specs.declared.status.Stop.TheVariants.{Illegal}
use Rattle.control_registers.specs.Registers.{with_register}
use Rattle.guest_machine.specs.State.{Core}
use Rattle.guest_machine.specs.Registers.{known, set_register}
use Rattle.guest_machine.specs.Effects.{Effect, moved_to, quiet, results_in, stops}
use Rattle.guest_machine.specs.Controls.{barrier, control, control_effect, controls_after, has_control, is_counter}
use Rattle.guest_machine.specs.Controls.{is_upper_counter, operand_of}
use Rattle.clean_reports.specs.Agreement.{ControlsAgree, MemoriesAgree, ValuesAgree}
use Rattle.clean_reports.proofs.Values.{computed-agree, known-agrees}
use Rattle.clean_reports.proofs.Registers.{Held, HeldAgree, held-of, register-agrees, set-in, set-in-agrees, swap}
use Rattle.clean_reports.proofs.Effects.{EffectsAgree, halts, moves}

-- the operand is a word, if it's a number
abbrev pub IsSmallOperand : ControlOperand → Type 0
IsSmallOperand (Register r) = Unit {0}
IsSmallOperand (Immediate n) = n < 2 ^ 32

-- what replaces words that agree
replaced-agrees : (access : ControlAccess) (x y u v : Bits) → ValuesAgree x u → ValuesAgree y v
    → ValuesAgree (replaced access x y) (replaced access u v)
unfolding replaced
replaced-agrees Write x y u v a b = b
replaced-agrees Set x y u v a b = computed-agree operations.Or x y u v a b
replaced-agrees Clear x y u v a b =
    computed-agree operations.And x (complement y) u (complement v) a
    (computed-agree operations.Xor y (known 4294967295) v (known 4294967295) b
    (known-agrees 4294967295 (omega arith)))

module _ (c : Core) (qs : Held) (a : HeldAgree (held-of c) qs) where
  control-agrees : (number : ℕ) → ValuesAgree (control c number) (control (swap c qs) number)
  unfolding control
  control-agrees number = go (is_counter number) (is_upper_counter number)
    where
      go : (lower upper : Bool)
          → ValuesAgree (cond lower (known (c.steps % 2 ^ 32))
          (cond upper (known (c.steps / 2 ^ 32 % 2 ^ 32)) (c.controls number)))
          (cond lower (known (c.steps % 2 ^ 32))
          (cond upper (known (c.steps / 2 ^ 32 % 2 ^ 32)) (qs.controls number)))
      go true upper = known-agrees (c.steps % 2 ^ 32) (omega arith)
      go false true = known-agrees (c.steps / 2 ^ 32 % 2 ^ 32) (omega arith)
      go false false = a.controls number

  operand-agrees : (operand : ControlOperand) → IsSmallOperand operand
      → ValuesAgree (operand_of c operand) (operand_of (swap c qs) operand)
  unfolding operand_of
  operand-agrees (Register r) small = register-agrees c qs a r
  operand-agrees (Immediate n) small = known-agrees n small

  after-agrees : (access : ControlAccess) (number : ℕ) (operand : ControlOperand) → IsSmallOperand operand
      → ControlsAgree (controls_after c access number operand) (controls_after (swap c qs) access number operand)
  unfolding controls_after
  after-agrees access number operand small =
      go (writes access operand && not (is_counter number || is_upper_counter number))
    where
      new : Bits
      new = replaced access (control c number) (operand_of c operand)

      other : Bits
      other = replaced access (control (swap c qs) number) (operand_of (swap c qs) operand)

      news : ValuesAgree new other
      news =
          replaced-agrees access _ _ _ _ (control-agrees number) (operand-agrees operand small)

      at : (k : ℕ) (same : Bool) → ValuesAgree (cond same new (c.controls k)) (cond same other (qs.controls k))
      at k true = news
      at k false = a.controls k

      go : (written : Bool)
          → ControlsAgree (cond written (with_register c.controls number new) c.controls)
          (cond written (with_register qs.controls number other) qs.controls)
      go true = λ k. at k (k == number)
      go false = a.controls

module _ (c : Core) (qs : Held) (a : HeldAgree (held-of c) qs) (f g : ℕ → ℕ)
    (m : MemoriesAgree c.shadow f g) (next : ℕ) (fits : next < 2 ^ 32) where
  pub controls-agree : (access : ControlAccess) (rd number : ℕ) (operand : ControlOperand) → IsSmallOperand operand
      → EffectsAgree f g None None (control_effect c next access rd number operand)
      (control_effect (swap c qs) next access rd number operand)
  unfolding control_effect has_control set_register
  controls-agree access rd number operand small = go (has_control c access number operand)
    where
      after : Core → Core
      after d = record d { controls = controls_after d access number operand }

      leaves : Core → Effect
      leaves d = results_in (after d) next rd (control d number)

      written : EffectsAgree f g None None (leaves c) (leaves (swap c qs))
      written = record {
        registers = set-in (held-of (after (swap c qs))) rd (control (swap c qs) number);
        core = refl;
        agree = set-in-agrees (held-of (after c)) (held-of (after (swap c qs)))
            (record { registers = a.registers; controls = after-agrees c qs a access number operand small }) rd _ _
            (control-agrees c qs a number);
        raised = refl;
        output = refl;
        memory = m;
      }

      go : (has : Bool) → EffectsAgree f g None None (cond has (leaves c) (stops c Illegal))
          (cond has (leaves (swap c qs)) (stops (swap c qs) Illegal))
      go true = written
      go false = halts c qs a f g m next fits Illegal []

  pub barriers-agree : EffectsAgree f g None None (barrier c next) (barrier (swap c qs) next)
  unfolding barrier
  barriers-agree = go (has_controls c.isa)
    where
      go : (has : Bool) → EffectsAgree f g None None (cond has (quiet (moved_to c next)) (stops c Illegal))
          (cond has (quiet (moved_to (swap c qs) next)) (stops (swap c qs) Illegal))
      go true = moves c qs a f g m next fits next []
      go false = halts c qs a f g m next fits Illegal []

-- Two cores that differ only in what is undefined: registers, control registers and shadows.
use Rattle.std.proofs.Common.{◌≡◌, ℕ, ◌+◌, ◌<◌, ◌≤◌, Bool, true, false, cond, refl, sym, ◌∙◌}
use Rattle.std.proofs.Common.{subst, inl, inr, arith, List, [], ◌∷◌, length, min, slice_set, slice_index_or, ◌==◌}
use Rattle.std.proofs.lemmas.Bool.{cases_lt, cases_eq}
use Rattle.std.proofs.lemmas.List.{get_or-set_same, get_or-set_other, get_or_past, length-set}
use Rattle.definedness.specs.declared.Bits.{Bits}
use Rattle.error_events.specs.declared.parameter.Parameter.{Parameter}
use Rattle.shadow_memory.specs.Shadows.{Shadow}
use Rattle.guest_machine.specs.State.{Core}
use Rattle.guest_machine.specs.Registers.{known, register}
use Rattle.guest_machine.specs.Calls.{argument, moved_from_start, moved_len}
use Rattle.any_runs.specs.Sharper.{Sharper, RegistersSharper, ControlsSharper, ShadowsSharper}
use Rattle.any_runs.proofs.Memory.{moved-same}
use Rattle.any_runs.proofs.Mono.{none-within}
use Rattle.any_runs.proofs.Tests.{IsKnown, AreKnown, HasKnown}

pub record Held : Type 0 where
  pub registers : List Bits
  pub controls : ℕ → Bits
  pub shadow : ℕ → Shadow

abbrev pub held-of : Core → Held
held-of core = record { registers = core.registers; controls = core.controls; shadow = core.shadow }

pub record HeldSharper (x y : Held) : Type 0 where
  pub registers : RegistersSharper x.registers y.registers
  pub controls : ControlsSharper x.controls y.controls
  pub shadow : ShadowsSharper x.shadow y.shadow

-- the core with these in place of its own
abbrev pub swap : Core → Held → Core
swap core qs = record core { registers = qs.registers; controls = qs.controls; shadow = qs.shadow }

-- what is held after a register is set; x0 stays. And with other shadows
abbrev pub set-in : Held → ℕ → Bits → Held
set-in qs r bits = record qs { registers = cond (r == 0) qs.registers (slice_set qs.registers r bits) }

abbrev pub shaded : Held → (ℕ → Shadow) → Held
shaded qs shadow = record qs { shadow = shadow }

pub known-sharper : (n : ℕ) → Sharper (known n) (known n)
known-sharper n = record { value = refl; undef = λ i h e. e; small = omega arith }

set-sharper : (xs ys : List Bits) → RegistersSharper xs ys → (r : ℕ) (x y : Bits) → Sharper x y
    → RegistersSharper (slice_set xs r x) (slice_set ys r y)
set-sharper xs ys a r x y v = record {
  count = length-set xs r x ∙ a.count ∙ sym (length-set ys r y);
  each = λ k. elim (cases_eq k r) [
    | inl same ↦ elim (cases_lt r (length xs)) [
      | inl within ↦
          let other : r < length ys = subst (λ n. r < n) a.count within in
          subst (λ n. Sharper (slice_index_or (slice_set xs r x) n (known 0))
          (slice_index_or (slice_set ys r y) n (known 0))) (sym same)
          (subst (λ b. Sharper b (slice_index_or (slice_set ys r y) r (known 0)))
          (sym (get_or-set_same xs r x (known 0) within))
          (subst (λ b. Sharper x b) (sym (get_or-set_same ys r y (known 0) other)) v))
      | inr past ↦
          let far : length (slice_set xs r x) ≤ k = subst (λ n. n ≤ k) (sym (length-set xs r x)) (omega arith) in
          let other : length (slice_set ys r y) ≤ k = subst (λ n. n ≤ k) (a.count ∙ sym (length-set ys r y))
          (omega arith) in
          subst (λ b. Sharper b (slice_index_or (slice_set ys r y) k (known 0)))
          (sym (get_or_past (slice_set xs r x) k (known 0) far))
          (subst (λ b. Sharper (known 0) b) (sym (get_or_past (slice_set ys r y) k (known 0) other))
          (known-sharper 0))
    ]
    | inr apart ↦
        subst (λ b. Sharper b (slice_index_or (slice_set ys r y) k (known 0)))
        (sym (get_or-set_other xs r k x (known 0) apart))
        (subst (λ b. Sharper (slice_index_or xs k (known 0)) b)
        (sym (get_or-set_other ys r k y (known 0) apart)) (a.each k))
  ];
}

pub set-in-sharper : (xs ys : Held) → HeldSharper xs ys → (r : ℕ) (x y : Bits) → Sharper x y
    → HeldSharper (set-in xs r x) (set-in ys r y)
set-in-sharper xs ys a r x y v = record { registers = go (r == 0); controls = a.controls; shadow = a.shadow }
  where
    go : (b : Bool) → RegistersSharper (cond b xs.registers (slice_set xs.registers r x))
        (cond b ys.registers (slice_set ys.registers r y))
    go true = a.registers
    go false = set-sharper xs.registers ys.registers a.registers r x y v

module _ (c : Core) (qs : Held) (a : HeldSharper (held-of c) qs) where
  pub register-sharper : (r : ℕ) → Sharper (register c r) (register (swap c qs) r)
  unfolding register
  register-sharper r = go (r == 0)
    where
      go : (b : Bool) → Sharper (cond b (known 0) (slice_index_or c.registers r (known 0)))
          (cond b (known 0) (slice_index_or qs.registers r (known 0)))
      go true = known-sharper 0
      go false = a.registers.each r

  pub same-argument : (r : ℕ) → argument c r ≡ argument (swap c qs) r
  same-argument r = (register-sharper r).value

  pub moved-too : moved_len c ≡ moved_len (swap c qs)
  unfolding moved_len
  moved-too =
      moved-same c.shadow qs.shadow a.shadow (argument c 11) (min (argument c 12) c.limits.most_moved)
      ∙ (λ i. moved_from_start qs.shadow (same-argument 11 i) (min (same-argument 12 i) c.limits.most_moved))

  pub other-known : (r : ℕ) → IsKnown c r → IsKnown (swap c qs) r
  other-known r none =
      let s = register-sharper r in none-within 32 (register c r).undef _ s.small s.undef none

  pub others-known : (r : ℕ) (parameters : List Parameter) → AreKnown c r parameters
      → AreKnown (swap c qs) r parameters
  others-known r [] known = tt
  others-known r (p ∷ ps) known = (other-known r known.0, others-known (r + 1) ps known.1)

  pub call-others : (ps : List Parameter) → HasKnown c ps → HasKnown (swap c qs) ps
  call-others ps known = (other-known 17 known.0, others-known 10 ps known.1)

  -- a defined register is the same
  pub same-bits : (r : ℕ) → IsKnown c r → register c r ≡ register (swap c qs) r
  same-bits r none = λ i. record { value = same-argument r i; undef = (none ∙ sym (other-known r none)) i }

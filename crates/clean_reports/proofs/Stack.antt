-- The stack pointer rule and the fetched code agree.
use Rattle.std.proofs.Common.{◌≡◌, ℕ, ◌*◌, ◌-◌, ◌<◌, ◌&&◌, Bool, true, false, cond, refl, sym, ap}
use Rattle.std.proofs.Common.{◌∙◌, subst, subst₂, inl, inr, arith, Option, Some, None, ◌==◌, nat_le, nat_lt}
use Rattle.std.proofs.Common.{ne_eqb}
use Rattle.std.specs.Prelude.{is_none}
use Rattle.std.proofs.lemmas.Bool.{cases_eq, and_parts, eqb-true, false≢true}
use Rattle.std.proofs.lemmas.Nat.Bits.{same_from_bits_below, bit_at_above}
use Rattle.std.specs.Int.{bit_at}
use Rattle.definedness.specs.declared.Bits.{Bits}
use Rattle.shadow_memory.specs.Ranges.{window, little_word}
use Rattle.shadow_memory.specs.declared.cells.RangeKind.{RangeKind}
use Rattle.shadow_memory.specs.declared.cells.RangeKind.TheVariants.{NoAccess, Undefined, Defined}
use Rattle.instructions.specs.Widths.{width_len}
use Rattle.instructions.specs.declared.width.Width.{Width}
use Rattle.instructions.specs.declared.width.Width.TheVariants.{Byte, Half, Word}
use Rattle.shadow_memory.specs.Shadows.{first_inaccessible}
use Rattle.memory_map.specs.declared.regions.StackRegion.{StackRegion}
use Rattle.guest_machine.specs.State.{Core}
use Rattle.guest_machine.specs.Registers.{register}
use Rattle.guest_machine.specs.Errors.{fetch_undef}
use Rattle.guest_machine.specs.StackPointer.{is_stack_pointer, is_in_stack, framed, stack_moved, stack_ruled}
use Rattle.guest_machine.specs.StackPointer.{largest_frame}
use Rattle.guest_machine.specs.StackPointer.{ranged}
use Rattle.guest_machine.specs.Exec.{half_at, word_at, word_fault}
use Rattle.clean_reports.specs.Agreement.{ValuesAgree, MemoriesAgree}
use Rattle.clean_reports.proofs.Bits.{window-lt}
use Rattle.clean_reports.proofs.Values.{same-bits}
use Rattle.clean_reports.proofs.Memory.{accessible-from, numbers-agree, made-agrees, window-bytes}
use Rattle.clean_reports.proofs.Memory.{window-past}
use Rattle.clean_reports.proofs.Registers.{Held, HeldAgree, held-of, swap, register-agrees}
use Rattle.clean_reports.proofs.HeapCalls.{not-no, not-un}

-- a change of shadows, the same in both cores
pub record Reshades (c : Core) (qs : Held) (f g : ℕ → ℕ) (e h : Core) : Type 0 where
  pub core : h ≡ swap e qs
  pub registers : held-of e ≡ held-of c
  pub memory : MemoriesAgree e.shadow f g

pointer-same : (stack : StackRegion) (x y : Bits) → ValuesAgree x y
    → is_stack_pointer stack x ≡ is_stack_pointer stack y
pointer-same stack x y v = elim (cases_eq x.undef 0) [
  | inl none ↦ ap (is_stack_pointer stack) (same-bits x y v none)
  | inr some ↦
      ap (λ b. b && is_in_stack stack x.value) (ne_eqb x.undef 0 some)
      ∙ sym (ap (λ b. b && is_in_stack stack y.value) (ne_eqb y.undef 0 (λ e. some (v.undef ∙ e))))
]

pointer-known : (stack : StackRegion) (x : Bits) → is_stack_pointer stack x ≡ true → x.undef ≡ 0
pointer-known stack x e = eqb-true x.undef 0 (and_parts (x.undef == 0) (is_in_stack stack x.value) e).0

is-none : (o : Option ℕ) → is_none o ≡ true → o ≡ None
is-none None e = refl
is-none (Some n) e = absurd (false≢true e)

-- an access has at most 32 bits
few-bits : (width : Width) (i : ℕ) → i < 8 * width_len width → i < 32
few-bits Byte i h = omega arith
few-bits Half i h = omega arith
few-bits Word i h = omega arith

module _ (c : Core) (qs : Held) (a : HeldAgree (held-of c) qs) (f g : ℕ → ℕ)
    (m : MemoriesAgree c.shadow f g) where
  unshaded : Reshades c qs f g c (swap c qs)
  unshaded = record { core = refl; registers = refl; memory = m }

  frames : (low high : ℕ) (kind : RangeKind) → (kind ≡ Defined → ⊥)
      → Reshades c qs f g (framed c low high kind) (framed (swap c qs) low high kind)
  unfolding framed unshaded
  frames low high kind loose = go (nat_le (high - low) largest_frame)
    where
      go : (b : Bool) → Reshades c qs f g (cond b (ranged c low (high - low) kind) c)
          (cond b (ranged (swap c qs) low (high - low) kind) (swap c qs))
      go true = record {
        core = refl;
        registers = refl;
        memory = made-agrees c.shadow f g m low
            (high - low) kind loose;
      }
      go false = unshaded

  moves : (old new : ℕ) → Reshades c qs f g (stack_moved c old new) (stack_moved (swap c qs) old new)
  unfolding stack_moved
  moves old new = go (nat_lt new old) (nat_lt old new)
    where
      go : (b d : Bool) → Reshades c qs f g
          (cond b (framed c new old Undefined) (cond d (framed c old new NoAccess) c))
          (cond b (framed (swap c qs) new old Undefined) (cond d (framed (swap c qs) old new NoAccess) (swap c qs)))
      go true d = frames new old Undefined not-un
      go false true = frames old new NoAccess not-no
      go false false = unshaded

  pub rules : (x y : Bits) → ValuesAgree x y → Reshades c qs f g (stack_ruled x c) (stack_ruled y (swap c qs))
  unfolding stack_ruled
  rules x y v =
      subst₂ (λ p q. Reshades c qs f g (cond p (stack_moved c x.value (register c 2).value) c)
      (cond q (stack_moved (swap c qs) y.value (register (swap c qs) 2).value) (swap c qs)))
      refl both (go (is_stack_pointer c.stack x && is_stack_pointer c.stack (register c 2)) refl)
    where
      new : ValuesAgree (register c 2) (register (swap c qs) 2)
      new = register-agrees c qs a 2

      both : (is_stack_pointer c.stack x && is_stack_pointer c.stack (register c 2))
          ≡ (is_stack_pointer c.stack y && is_stack_pointer c.stack (register (swap c qs) 2))
      both = λ i. pointer-same c.stack x y v i && pointer-same c.stack (register c 2) (register (swap c qs) 2) new i

      go : (t : Bool) → (is_stack_pointer c.stack x && is_stack_pointer c.stack (register c 2)) ≡ t
          → Reshades c qs f g (cond t (stack_moved c x.value (register c 2).value) c)
          (cond t (stack_moved (swap c qs) y.value (register (swap c qs) 2).value) (swap c qs))
      go true e =
          let parts = and_parts (is_stack_pointer c.stack x) (is_stack_pointer c.stack (register c 2)) e in
          let p = same-bits x y v (pointer-known c.stack x parts.0) in
          let q = same-bits (register c 2) (register (swap c qs) 2) new
          (pointer-known c.stack (register c 2) parts.1) in
          subst (λ (r : Core). Reshades c qs f g (stack_moved c x.value (register c 2).value) r)
          (λ i. stack_moved (swap c qs) (p i).value (q i).value) (moves x.value (register c 2).value)
      go false e = unshaded

  -- the number in accessible bytes at pc that are defined is the same
  pub number-same : (width : Width) → first_inaccessible c.shadow c.pc (width_len width) ≡ None
      → fetch_undef c (width_len width) ≡ 0
      → little_word (window f c.pc (width_len width)) ≡ little_word (window g c.pc (width_len width))
  number-same width opened none =
      let n = width_len width in
      same_from_bits_below (8 * n) (little_word (window f c.pc n)) (little_word (window g c.pc n))
      (window-lt width (window f c.pc n) (window-bytes f c.pc n m.one) (λ i past. window-past f c.pc n i past))
      (window-lt width (window g c.pc n) (window-bytes g c.pc n m.other) (λ i past. window-past g c.pc n i past))
      (λ i h. numbers-agree c.shadow f g m c.pc n (accessible-from c.shadow c.pc n opened) i (few-bits width i h)
      (ap (λ n. bit_at n i) none ∙ bit_at_above 0 0 i (omega arith) (omega arith)))

  -- so is a half, and a word
  pub half-same : first_inaccessible c.shadow c.pc 2 ≡ None → fetch_undef c 2 ≡ 0 → half_at c f ≡ half_at c g
  half-same opened none = number-same Half opened none

  pub word-same : word_fault c ≡ None → fetch_undef c 4 ≡ 0 → word_at c f ≡ word_at c g
  word-same opened none = number-same Word opened none

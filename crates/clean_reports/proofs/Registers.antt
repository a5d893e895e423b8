-- Two cores that differ only in their registers and control registers, which agree: registers, and tests of them.
use Rattle.std.proofs.Common.{◌≡◌, ℕ, ◌+◌, ◌<◌, ◌≤◌, Bool, true, false, cond, refl, sym, ap, ◌∙◌}
use Rattle.std.proofs.Common.{subst, inl, inr, arith, List, [], ◌∷◌, ◌++◌, length, slice_set, slice_index_or, ◌==◌}
use Rattle.std.proofs.lemmas.Bool.{cases_lt, cases_eq, eqb-true, eq-eqb, false≢true}
use Rattle.std.proofs.lemmas.List.{get_or-set_same, get_or-set_other, get_or_past, length-set}
use Rattle.definedness.specs.declared.Bits.{Bits}
use Rattle.error_events.specs.declared.event.Event.{Event}
use Rattle.error_events.specs.declared.kind.Kind.{Kind}
use Rattle.error_events.specs.declared.kind.Kind.TheVariants.{Param}
use Rattle.error_events.specs.declared.kind.ParameterFault.TheVariants.{Contains}
use Rattle.error_events.specs.declared.event.Note.TheVariants.{Absent}
use Rattle.error_events.specs.declared.parameter.Parameter.{Parameter}
use Rattle.guest_machine.specs.State.{Core}
use Rattle.guest_machine.specs.Registers.{known, register, set_register, tested}
use Rattle.guest_machine.specs.Errors.{event_unless, event_of, here, register_errors, parameter_errors}
use Rattle.guest_machine.specs.Calls.{tested_from, errors_from, argument}
use Rattle.clean_reports.specs.Agreement.{ControlsAgree, ValuesAgree, RegistersAgree}
use Rattle.clean_reports.specs.Uses.{NoUse, is_use}
use Rattle.clean_reports.proofs.Values.{known-agrees, same-value}

-- what two cores may hold otherwise: registers, and control registers
pub record Held : Type 0 where
  pub registers : List Bits
  pub controls : ℕ → Bits

abbrev pub held-of : Core → Held
held-of core = record { registers = core.registers; controls = core.controls }

pub record HeldAgree (x y : Held) : Type 0 where
  pub registers : RegistersAgree x.registers y.registers
  pub controls : ControlsAgree x.controls y.controls

-- the core with these in place of its own
abbrev pub swap : Core → Held → Core
swap core qs = record core { registers = qs.registers; controls = qs.controls }

-- what is held after a register is set; x0 stays
abbrev pub set-in : Held → ℕ → Bits → Held
set-in qs r bits =
    record { registers = cond (r == 0) qs.registers (slice_set qs.registers r bits); controls = qs.controls }

pub set-agrees : (xs ys : List Bits) → RegistersAgree xs ys → (r : ℕ) (x y : Bits) → ValuesAgree x y
    → RegistersAgree (slice_set xs r x) (slice_set ys r y)
set-agrees xs ys a r x y v = record {
  count = length-set xs r x ∙ a.count ∙ sym (length-set ys r y);
  each = λ k. elim (cases_eq k r) [
    | inl same ↦ elim (cases_lt r (length xs)) [
      | inl within ↦
          let other : r < length ys = subst (λ n. r < n) a.count within in
          subst (λ n. ValuesAgree (slice_index_or (slice_set xs r x) n (known 0))
          (slice_index_or (slice_set ys r y) n (known 0))) (sym same)
          (subst (λ b. ValuesAgree b (slice_index_or (slice_set ys r y) r (known 0)))
          (sym (get_or-set_same xs r x (known 0) within))
          (subst (λ b. ValuesAgree x b) (sym (get_or-set_same ys r y (known 0) other)) v))
      | inr past ↦
          let far : length (slice_set xs r x) ≤ k = subst (λ n. n ≤ k) (sym (length-set xs r x)) (omega arith) in
          let other : length (slice_set ys r y) ≤ k = subst (λ n. n ≤ k) (a.count ∙ sym (length-set ys r y))
          (omega arith) in
          subst (λ b. ValuesAgree b (slice_index_or (slice_set ys r y) k (known 0)))
          (sym (get_or_past (slice_set xs r x) k (known 0) far))
          (subst (λ b. ValuesAgree (known 0) b) (sym (get_or_past (slice_set ys r y) k (known 0) other))
          (known-agrees 0 (omega arith)))
    ]
    | inr apart ↦
        subst (λ b. ValuesAgree b (slice_index_or (slice_set ys r y) k (known 0)))
        (sym (get_or-set_other xs r k x (known 0) apart))
        (subst (λ b. ValuesAgree (slice_index_or xs k (known 0)) b)
        (sym (get_or-set_other ys r k y (known 0) apart)) (a.each k))
  ];
}

pub set-in-agrees : (xs ys : Held) → HeldAgree xs ys → (r : ℕ) (x y : Bits) → ValuesAgree x y
    → HeldAgree (set-in xs r x) (set-in ys r y)
set-in-agrees xs ys a r x y v = record { registers = go (r == 0); controls = a.controls }
  where
    go : (b : Bool) → RegistersAgree (cond b xs.registers (slice_set xs.registers r x))
        (cond b ys.registers (slice_set ys.registers r y))
    go true = a.registers
    go false = set-agrees xs.registers ys.registers a.registers r x y v

pub register-agrees : (c : Core) (qs : Held) → HeldAgree (held-of c) qs → (r : ℕ)
    → ValuesAgree (register c r) (register (swap c qs) r)
unfolding register
register-agrees c qs a r = go (r == 0)
  where
    go : (b : Bool) → ValuesAgree (cond b (known 0) (slice_index_or c.registers r (known 0)))
        (cond b (known 0) (slice_index_or qs.registers r (known 0)))
    go true = known-agrees 0 (omega arith)
    go false = a.registers.each r

-- registers with no undefined bit --

abbrev pub IsKnown : Core → ℕ → Type 0
IsKnown c r = (register c r).undef ≡ 0

module _ (c : Core) (qs : Held) (a : HeldAgree (held-of c) qs) (r : ℕ) (known : IsKnown c r) where
  pub same-argument : argument c r ≡ argument (swap c qs) r
  same-argument = same-value (register c r) (register (swap c qs) r) (register-agrees c qs a r) known

  pub other-known : IsKnown (swap c qs) r
  other-known = sym (register-agrees c qs a r).undef ∙ known

-- tests that raise no use --

pub no-event : (fine : Bool) (trace : List ℕ) (kind : Kind) → is_use kind ≡ true → NoUse (event_unless fine trace kind)
    → fine ≡ true
unfolding event_unless
no-event true trace kind used none = refl
no-event false trace kind used none = absurd (false≢true (sym none.0 ∙ used))

pub left-none : (xs ys : List Event) → NoUse (xs ++ ys) → NoUse xs
left-none [] ys n = tt
left-none (x ∷ xs) ys n = (n.0, left-none xs ys n.1)

pub right-none : (xs ys : List Event) → NoUse (xs ++ ys) → NoUse ys
right-none [] ys n = n
right-none (x ∷ xs) ys n = right-none xs ys n.1

pub known-by : (c : Core) (r : ℕ) (kind : Kind) → is_use kind ≡ true → NoUse (register_errors c r kind) → IsKnown c r
known-by c r kind used none = eqb-true (register c r).undef 0
    (no-event ((register c r).undef == 0) (here c) kind used none)

pub no-errors : (c : Core) (r : ℕ) (kind : Kind) → IsKnown c r → register_errors c r kind ≡ []
unfolding event_unless
no-errors c r kind known = ap (λ b. cond b [] (event_of (here c) kind Absent ∷ []))
    (eq-eqb (register c r).undef 0 known)

pub tested-same : (c : Core) (r : ℕ) → IsKnown c r → tested c r ≡ c
unfolding tested
tested-same c r known =
    ap (λ b. cond b c (set_register c r (record { value = (register c r).value; undef = 0 })))
    (eq-eqb (register c r).undef 0 known)

-- registers from r on have no undefined bit, one for each parameter
abbrev pub AreKnown : Core → ℕ → List Parameter → Type 0
AreKnown c r [] = Unit {0}
AreKnown c r (parameter ∷ parameters) = IsKnown c r × AreKnown c (r + 1) parameters

pub all-known : (c : Core) (r : ℕ) (parameters : List Parameter) → NoUse (errors_from c r parameters)
    → AreKnown c r parameters
unfolding errors_from
all-known c r [] none = tt
all-known c r (p ∷ ps) none =
    let first = known-by c r (Param p Contains) refl (left-none _ _ none) in (
      first,
      all-known c (r + 1) ps (subst (λ now. NoUse (errors_from now (r + 1) ps)) (tested-same c r first)
          (right-none (parameter_errors c r p) _ none)),
    )

pub all-tested : (c : Core) (r : ℕ) (parameters : List Parameter) → AreKnown c r parameters
    → tested_from c r parameters ≡ c
unfolding tested_from
all-tested c r [] known = refl
all-tested c r (p ∷ ps) known =
    ap (λ now. tested_from now (r + 1) ps) (tested-same c r known.0) ∙ all-tested c (r + 1) ps known.1

pub none-raised : (c : Core) (r : ℕ) (parameters : List Parameter) → AreKnown c r parameters
    → errors_from c r parameters ≡ []
unfolding errors_from
none-raised c r [] known = refl
none-raised c r (p ∷ ps) known =
    ap (λ es. es ++ errors_from (tested c r) (r + 1) ps) (no-errors c r (Param p Contains) known.0)
    ∙ ap (λ now. errors_from now (r + 1) ps) (tested-same c r known.0) ∙ none-raised c (r + 1) ps known.1

pub others-known : (c : Core) (qs : Held) → HeldAgree (held-of c) qs → (r : ℕ) (parameters : List Parameter)
    → AreKnown c r parameters → AreKnown (swap c qs) r parameters
others-known c qs a r [] known = tt
others-known c qs a r (p ∷ ps) known =
    (other-known c qs a r known.0, others-known c qs a (r + 1) ps known.1)

-- A table of sides, and its form that has at most one proof.
use Rattle.std.proofs.Common.{◌≡◌, ℕ, zero, suc, ◌+◌, Bool, true, false, List, refl, sym, subst, arith}
use Rattle.std.proofs.lemmas.Bool.{true≢false}
use Rattle.std.specs.Prelude.{Decides}
use Rattle.guest_machine.specs.State.{State}
use Rattle.guest_machine.specs.declared.setup.Setup.{Setup}
use Rattle.run_values.specs.declared.alteration.Alteration.{Alteration}
use Rattle.run_values.specs.declared.span.Span.{Span}
use Rattle.checkpoints.specs.Known.{IsKnown, RowSays, covers, covers_twice}
use Rattle.checkpoints.specs.Sides.{Covers, CoversTwice, IsSides, RowTells, Side, has_again, has_side}
use Rattle.checkpoints.specs.declared.sides.Sides.{Sides}
use Rattle.checkpoints.proofs.SideSteps.{again-more, covers-more, none-again, none-covered}

-- two answers to one question are the same
pub same-answer : {P : Type 0} (a b : Bool) → Decides a P → Decides b P → a ≡ b
same-answer true true d e = refl
same-answer true false d e = absurd (true≢false (sym (e.1 (d.0 refl))))
same-answer false true d e = absurd (true≢false (sym (d.1 (e.0 refl))))
same-answer false false d e = refl

module _ (start : State) (setup : Setup) (marks : List Alteration) where
  pub decides-covers : (n : ℕ) (side : Side)
      → Decides (covers start setup marks n side) (Covers start setup marks n side)
  unfolding covers
  decides-covers zero side = none-covered start setup marks side
  decides-covers (suc k) side =
      let next : k + 1 ≡ suc k = omega arith in
      subst (λ n. Decides (covers start setup marks (suc k) side) (Covers start setup marks n side)) next
      (covers-more start setup marks k side.addr side.on (covers start setup marks k side)
      (covers start setup marks (suc k) side) (decides-covers k side) refl)

  decides-twice : (n : ℕ) (side : Side)
      → Decides (covers_twice start setup marks n side) (CoversTwice start setup marks n side)
  unfolding covers_twice
  decides-twice zero side = none-again start setup marks side
  decides-twice (suc k) side =
      let next : k + 1 ≡ suc k = omega arith in
      subst (λ n. Decides (covers_twice start setup marks (suc k) side) (CoversTwice start setup marks n side)) next
      (again-more start setup marks k side.addr side.on (covers start setup marks k side)
      (covers_twice start setup marks k side) (covers_twice start setup marks (suc k) side) (decides-covers k side)
      (decides-twice k side) refl)

  said : (n : ℕ) (side : Side) (row : Sides) → RowTells start setup marks n side row
      → RowSays start setup marks n side row
  said n side row told = record {
    once = same-answer (has_side row side.on) (covers start setup marks n side) told.once (decides-covers n side);
    again = same-answer (has_again row side.on) (covers_twice start setup marks n side) told.again
        (decides-twice n side);
  }

  told : (n : ℕ) (side : Side) (row : Sides) → RowSays start setup marks n side row
      → RowTells start setup marks n side row
  told n side row says = record {
    once = subst (λ (b : Bool). Decides b (Covers start setup marks n side)) (sym says.once) (decides-covers n side);
    again = subst (λ (b : Bool). Decides b (CoversTwice start setup marks n side)) (sym says.again)
        (decides-twice n side);
  }

  pub known : (n : ℕ) (range : Span) (table : List Sides) → IsSides start setup marks n range table
      → IsKnown start setup marks n range table
  known n range table is = record {
    rows = is.rows;
    says = λ i on d less. said n _ _ (is.tells i on d less);
  }

  pub of-known : (n : ℕ) (range : Span) (table : List Sides) → IsKnown start setup marks n range table
      → IsSides start setup marks n range table
  of-known n range table is = record {
    rows = is.rows;
    tells = λ i on d less. told n _ _ (is.says i on d less);
  }

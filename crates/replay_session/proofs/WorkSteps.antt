-- How commands move the work of a session.
use Rattle.std.proofs.Common.{◌≡◌, ℕ, Option, None, Some, inl, inr, refl, sym, ◌∙◌, arith}
use Rattle.std.proofs.lemmas.Bool.{cases_lt, false≢true}
use Rattle.std.specs.Prelude.{◌↔◌, false}
use Rattle.checkpoints.specs.Edits.{KeepsLower, KeepsBelowEffectOrIsShort, IsRightForRun}
use Rattle.checkpoints.specs.Effects.{EffectShows}
use Rattle.checkpoints.specs.FirstEffects.{IsBelowFirst}
use Rattle.checkpoints.specs.Trails.{KeepsJust, meter_of, is_short, spacing_of}
use Rattle.checkpoints.specs.Work.{EditMoves, IsBelow, IsFirst, Work, lowered}
use Rattle.checkpoints.specs.declared.effect.Effect.{Effect}
use Rattle.checkpoints.specs.declared.trail.Trail.{Trail}
use Rattle.scenario.specs.Scenario.{Scenario, run_of}
use Rattle.replay_session.specs.Work.{work_on}

-- what shows nowhere leaves the work
pub unmoved : (P : ℕ → Type 0) (work : Work) → ((k : ℕ) → P k → ⊥)
    → EditMoves P work work
unmoved P work none = ((go, refl), refl)
  where
    go : (f : Option ℕ) → IsFirst P f → work.last ≡ lowered work.apart work.last f
    go None h = refl
    go (Some f) h = absurd (none f h.0)

-- a step is below the least one at which something holds exactly if it is below that one
below-first : (P : ℕ → Type 0) (f : Option ℕ) (k : ℕ) → IsFirst P f → IsBelowFirst P k ↔ IsBelow f k
below-first P None k first = ((λ h. tt), λ h j l p. first j p)
below-first P (Some f) k first = (
  (λ h. elim (cases_lt k f) [
    | inl low ↦ low
    | inr high ↦ absurd (h f high first.0)
  ]),
  λ h j l p. first.1 j (omega arith) p,
)

-- an edit that keeps the machines below the least step at which it shows, and the meter, moves the work by it
moves-kept : KeepsLower → (P : ℕ → Type 0) (old new : Trail) → KeepsJust (IsBelowFirst P) old new
    → spacing_of new ≡ spacing_of old → meter_of new ≡ meter_of old
    → EditMoves P (work_on old) (work_on new)
moves-kept law P old new kept sp meter = (
  (
    (λ f first. law f old new sp (λ k.
        let same = below-first P f k first in (
          (λ h. let was = (kept k).0 h in (was.0, same.0 was.1)),
          λ h. (kept k).1 (h.0, same.1 h.1),
        ))),
    meter,
  ),
  sp,
)

-- a trail that followed an edit, and isn't short after it, moved the work by the edit's effect
pub moves-followed : KeepsLower → (effect : Effect) (sc : Scenario) (old new : Trail) → IsRightForRun old (run_of sc)
    → KeepsBelowEffectOrIsShort effect old new
    → spacing_of new ≡ spacing_of old → meter_of new ≡ meter_of old → is_short new ≡ false
    → EditMoves (EffectShows effect (run_of sc).start sc.setup sc.marks) (work_on old) (work_on new)
moves-followed law effect sc old new right kept sp meter whole =
    (elim (kept (run_of sc).start sc.setup sc.marks right) [
      | inl just ↦ moves-kept law _ old new just.0 sp meter
      | inr only ↦ absurd (false≢true (sym whole ∙ only.1))
    ])

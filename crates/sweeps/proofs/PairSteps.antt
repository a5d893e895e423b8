-- Pairs of skips.
use Rattle.std.proofs.Common.{◌≡◌, ℕ, zero, suc, ◌+◌, ◌-◌, ◌≤◌, ◌&&◌, nat_lt, min, Bool, true, false, if◌then◌else◌}
use Rattle.std.proofs.Common.{[], ◌∷◌, ◌++◌, Option, Some, None, is_some, refl, ap, ap₂, sym, ◌∙◌, arith}
use Rattle.checkpoints.specs.Effects.{LeadsTo, Run}
use Rattle.checkpoints.specs.declared.effect.Effect.TheVariants.{After}
use Rattle.scenario.specs.Scenario.{Scenario}
use Rattle.sweep_plans.specs.declared.change.Change.TheVariants.{Twice}
use Rattle.sweep_plans.specs.declared.change.Glitch.TheVariants.{Skip}
use Rattle.sweep_plans.specs.declared.plan.Plan.{Plan}
use Rattle.sweep_plans.specs.declared.request.Range.{Range}
use Rattle.sweep_plans.specs.declared.standing.Standing.{Standing}
use Rattle.sweep_plans.specs.declared.standing.Standing.TheVariants as At
use Rattle.sweeps.specs.Standing.{is_half_next, is_struck, pair_by, pairs_at, pairs_from, skipped, standing_step}
use Rattle.sweeps.specs.Standing.{state_before}

-- the same marks lead from a run to itself
pub leads-same : (step : ℕ) (run : Run) → LeadsTo (After step) run run
leads-same step run = record { start = refl; differ = (refl, λ k n. refl) }

pair-with : (b short : Bool) (step later pc : ℕ)
    → is_some (if b then Some (At.Step later pc short) else None) ≡ true
    → pair_by step (if b then Some (At.Step later pc short) else None) ≡ Twice step Skip later Skip ∷ []
pair-with true short step later pc h = refl
pair-with false short step later pc h = cc

pair-without : (b short : Bool) (step later pc : ℕ)
    → is_some (if b then Some (At.Step later pc short) else None) ≡ false
    → pair_by step (if b then Some (At.Step later pc short) else None) ≡ []
pair-without true short step later pc h = cc
pair-without false short step later pc h = refl

-- the second skip is tried where a fault may strike
pub pair-there : (sc : Scenario) (code : Option Range) (step later : ℕ) → is_some (standing_step sc code later) ≡ true
    → pair_by step (standing_step sc code later) ≡ Twice step Skip later Skip ∷ []
unfolding standing_step
pair-there sc code step later h =
    pair-with (nat_lt later sc.step && is_struck sc.setup.hooks code (state_before sc later).core)
    (is_half_next (state_before sc later)) step later
    (state_before sc later).core.pc h

pub pair-absent : (sc : Scenario) (code : Option Range) (step later : ℕ)
    → is_some (standing_step sc code later) ≡ false → pair_by step (standing_step sc code later) ≡ []
unfolding standing_step
pair-absent sc code step later h =
    pair-without (nat_lt later sc.step && is_struck sc.setup.hooks code (state_before sc later).core)
    (is_half_next (state_before sc later)) step later
    (state_before sc later).core.pc h

-- none, and another
pub pairs-none : (sc : Scenario) (code : Option Range) (step n : ℕ) → n ≡ 0 → pairs_from sc code step n ≡ []
unfolding pairs_from
pairs-none sc code step zero e = refl
pairs-none sc code step (suc n) e = absurd (omega arith)

pub pairs-next : (sc now : Scenario) (code : Option Range) (step later : ℕ) → now ≡ skipped sc step → step + 1 ≤ later
    → pairs_from sc code step (later + 1 - (step + 1))
    ≡ pairs_from sc code step (later - (step + 1)) ++ pair_by step (standing_step now code later)
unfolding pairs_from
pairs-next sc now code step later left past =
    let one : later + 1 - (step + 1) ≡ suc (later - (step + 1)) = omega arith in
    let at : step + 1 + (later - (step + 1)) ≡ later = omega arith in
    ap (pairs_from sc code step) one
    ∙ ap (λ xs. pairs_from sc code step (later - (step + 1)) ++ xs)
    (ap₂ (λ (s : Scenario) k. pair_by step (standing_step s code k)) (sym left) at)

-- the pairs at a place
pub no-pairs : (sc : Scenario) (plan : Plan) (standing : Standing)
    → ((step pc : ℕ) (short : Bool) → standing ≡ At.Step step pc short → ⊥) → pairs_at sc plan standing ≡ []
unfolding pairs_at
no-pairs sc plan (At.Step step pc short) h = absurd (h step pc short refl)
no-pairs sc plan _ h = refl

pub pairs-off : (sc : Scenario) (plan : Plan) (standing : Standing) (step pc : ℕ) (half : Bool)
    → standing ≡ At.Step step pc half
    → plan.pairs ≡ false → pairs_at sc plan standing ≡ []
unfolding pairs_at
pairs-off sc plan standing step pc half is off =
    ap (pairs_at sc plan) is
    ∙ ap (λ b. if b then pairs_from sc plan.code step (min plan.steps.end sc.step - (step + 1)) else []) off

pub pairs-short : (sc : Scenario) (plan : Plan) (standing : Standing) (step pc : ℕ) (half : Bool)
    → standing ≡ At.Step step pc half
    → min plan.steps.end sc.step ≤ step → pairs_at sc plan standing ≡ []
unfolding pairs_at
pairs-short sc plan standing step pc half is short =
    let none : min plan.steps.end sc.step - (step + 1) ≡ 0 = omega (arith, short) in
    ap (pairs_at sc plan) is ∙ go plan.pairs none
  where
    go : (b : Bool) → min plan.steps.end sc.step - (step + 1) ≡ 0
        → (if b then pairs_from sc plan.code step (min plan.steps.end sc.step - (step + 1)) else []) ≡ []
    go true none = pairs-none sc plan.code step _ none
    go false none = refl

pub pairs-on : (sc : Scenario) (plan : Plan) (standing : Standing) (step pc : ℕ) (half : Bool)
    → standing ≡ At.Step step pc half
    → plan.pairs ≡ true
    → pairs_at sc plan standing ≡ pairs_from sc plan.code step (min plan.steps.end sc.step - (step + 1))
unfolding pairs_at
pairs-on sc plan standing step pc half is on =
    ap (pairs_at sc plan) is
    ∙ ap (λ b. if b then pairs_from sc plan.code step (min plan.steps.end sc.step - (step + 1)) else []) on

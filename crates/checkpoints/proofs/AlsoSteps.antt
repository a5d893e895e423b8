-- What a row says of several runs.
use Rattle.std.proofs.Common.{◌≡◌, ℕ, suc, ◌+◌, ◌≤◌, ◌||◌, Bool, true, false, List, refl, ap, subst, ◌∙◌, arith}
use Rattle.guest_machine.specs.State.{State}
use Rattle.guest_machine.specs.Exec.{is_running}
use Rattle.guest_machine.specs.Laws.{StaysHalted}
use Rattle.guest_machine.specs.Run.{pre, post}
use Rattle.guest_machine.specs.declared.setup.Setup.{Setup}
use Rattle.run_values.specs.declared.alteration.Alteration.{Alteration}
use Rattle.checkpoints.specs.Effects.{EffectShows, IsOfSetup, LeadsTo, Run}
use Rattle.checkpoints.specs.Entering.{is_side}
use Rattle.checkpoints.specs.FirstEffects.{IsBelowFirst}
use Rattle.checkpoints.specs.Known.{covers}
use Rattle.checkpoints.specs.Merged.{AlsoSays}
use Rattle.checkpoints.specs.Sides.{Side, has_side, side_of, sided}
use Rattle.checkpoints.specs.declared.effect.Effect.{Effect}
use Rattle.checkpoints.specs.declared.sides.Sides.{Sides}
use Rattle.checkpoints.proofs.EffectSteps.{Laws}
use Rattle.checkpoints.proofs.KnownSteps.{decides-covers, same-answer}
use Rattle.checkpoints.proofs.SideSteps.{covers-halted, covers-here, covers-less, covers-there}

pub or-or : (a b c : Bool) → ((a || b) || c) ≡ (a || (b || c))
or-or true b c = refl
or-or false b c = refl

module _ (start : State) (setup : Setup) (marks : List Alteration) where
  -- another step
  pub also-more : (k addr : ℕ) (on others : Bool) (old new : Sides)
      → AlsoSays others start setup marks k (sided addr on) old
      → has_side new on ≡ (has_side old on || is_side (side_of (post start setup marks k) setup) addr on)
      → AlsoSays others start setup marks (k + 1) (sided addr on) new
  unfolding covers
  also-more k addr on others old new says is =
      let step = is_side (side_of (post start setup marks k) setup) addr on in
      let next : suc k ≡ k + 1 = omega arith in
      subst (λ n. has_side new on ≡ (others || covers start setup marks n (sided addr on))) next
      (is ∙ ap (λ b. b || step) says ∙ or-or others (covers start setup marks k (sided addr on)) step)

  -- steps of a machine that is halted
  pub also-halted : StaysHalted → (k n addr : ℕ) (on others : Bool) (row : Sides) → k ≤ n
      → is_running (pre start setup marks k).core.status ≡ false
      → AlsoSays others start setup marks k (sided addr on) row
      → AlsoSays others start setup marks n (sided addr on) row
  also-halted law k n addr on others row l halted says =
      let side = sided addr on in
      let before = covers start setup marks k side in
      let same = same-answer before (covers start setup marks n side)
      (covers-halted start setup marks law k n addr on before l halted (decides-covers start setup marks k side))
      (decides-covers start setup marks n side) in
      says ∙ ap (λ b. others || b) same

  -- what fewer steps have
  pub covers-on : (k n : ℕ) (side : Side) → k ≤ n → covers start setup marks k side ≡ true
      → covers start setup marks n side ≡ true
  covers-on k n side l has =
      (decides-covers start setup marks n side).1
      (covers-less start setup marks k n side l ((decides-covers start setup marks k side).0 has))

-- runs that do the same
pub covers-same : (laws : Laws) (effect : Effect) → IsOfSetup effect → (one other : Run) (n : ℕ)
    → LeadsTo effect one other → IsBelowFirst (EffectShows effect one.start one.setup one.marks) n → (side : Side)
    → covers one.start one.setup one.marks n side ≡ covers other.start other.setup other.marks n side
covers-same laws effect of one other n led hidden side =
    let there = decides-covers other.start other.setup other.marks n side in
    same-answer (covers one.start one.setup one.marks n side) (covers other.start other.setup other.marks n side)
    (decides-covers one.start one.setup one.marks n side) (
      λ yes. covers-here laws effect of one other n led hidden n side (omega arith) (there.0 yes),
      λ has. there.1 (covers-there laws effect of one other n led hidden n side (omega arith) has),
    )

use Rattle.std.proofs.Common.{◌≡◌, ℕ, ◌≤◌, ◌+◌, ◌-◌, ◌*◌, ◌/◌, true, false, arith, subst, Bool, sym}
use Rattle.std.proofs.Math.Nat.{mul-zero}
use Rattle.checkpoints.specs.Edits.{TellsShown}
use Rattle.checkpoints.specs.Effects.{EffectShows}
use Rattle.checkpoints.specs.FirstEffects.{IsBelowFirst}
use Rattle.checkpoints.specs.Trails.{spacing_of}
use Rattle.checkpoints.specs.declared.effect.Effect.{Effect}
use Rattle.checkpoints.specs.declared.trail.Trail.{Trail}
use Rattle.checkpoints.proofs.EffectSteps.{hidden-at-start}
use Rattle.checkpoints.proofs.SpacingSteps.{up as up-by}
use Rattle.checkpoints.proofs.TrailSteps.{held-count, hidden-lower}
use Rattle.checkpoints.proofs.trail.Trail.held_before.Goals as goal

-- what has shown at a place has at the later ones
later-shown : (effect : Effect) (trail : Trail) (place i : ℕ) → place ≤ i
    → TellsShown effect trail (spacing_of trail * place) true → TellsShown effect trail (spacing_of trail * i) true
later-shown effect trail place i up told start setup marks h hidden =
    told start setup marks h
    (hidden-lower (EffectShows effect start setup marks) (spacing_of trail * place) (spacing_of trail * i)
    (up-by (spacing_of trail) place i up) hidden)

pub loop-kept-init : goal.loop-kept-init
loop-kept-init c = record {
  some = omega arith;
  more = omega (arith, c.len-end.ensures.some);
  within = omega (arith, held-count c.args.self.now, c.len-end.ensures.count);
  from = λ i up l. absurd (omega (arith, held-count c.args.self.now, c.len-end.ensures.count));
  last = λ start setup marks h. subst (IsBelowFirst (EffectShows c.args.effect start setup marks))
      (sym (mul-zero (spacing_of c.args.self.now)))
      (hidden-at-start c.args.effect c.args.self.now start setup marks h);
}

pub loop-kept-preserved-then-has_shown : goal.loop-kept-preserved-then-has_shown
loop-kept-preserved-then-has_shown c =
    let inv = c.loop-kept.invariant in
    let trail = c.args.self.now in
    let middle = c.loop-kept.kept + (c.loop-kept.end - c.loop-kept.kept) / 2 in
    let told : TellsShown c.args.effect trail (spacing_of trail * middle) true = subst
    (λ (b : Bool). TellsShown c.args.effect trail (spacing_of trail * middle) b) c.if-has_shown.true
    c.has_shown.ensures in
    record {
      some = inv.some;
      more = omega (arith, c.loop-kept-test.true);
      within = omega (arith, c.loop-kept-test.true, inv.within);
      from = λ i up l. later-shown c.args.effect trail middle i up told;
      last = inv.last;
    }

pub loop-kept-preserved : goal.loop-kept-preserved
loop-kept-preserved c =
    let inv = c.loop-kept.invariant in
    let trail = c.args.self.now in
    let middle = c.loop-kept.kept + (c.loop-kept.end - c.loop-kept.kept) / 2 in
    let told : TellsShown c.args.effect trail (spacing_of trail * middle) false = subst
    (λ (b : Bool). TellsShown c.args.effect trail (spacing_of trail * middle) b) c.if-has_shown.false
    c.has_shown.ensures in
    let back : middle ≡ middle + 1 - 1 = omega arith in
    record {
      some = omega arith;
      more = omega (arith, c.loop-kept-test.true);
      within = inv.within;
      from = inv.from;
      last = subst (λ n. TellsShown c.args.effect trail (spacing_of trail * n) false) back told;
    }

pub returns : goal.returns
returns c =
    let inv = c.loop-kept.invariant in
    let all : c.loop-kept.end ≤ c.loop-kept.kept = omega (arith, c.loop-kept-test.false) in
    record {
      some = inv.some;
      within = omega (arith, inv.more, inv.within);
      from = λ i up l. inv.from i (omega (arith, all, up)) l;
      last = inv.last;
    }

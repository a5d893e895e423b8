use Rattle.std.proofs.Common.{◌≡◌, ◌-◌, ◌≤◌, ap, length, refl, sym, subst, take, ◌∙◌}
use Rattle.checkpoints.specs.Effects.{EffectShows, IsWrite}
use Rattle.checkpoints.specs.Work.{EditMoves}
use Rattle.checkpoints.specs.declared.effect.Effect.{Effect}
use Rattle.scenario.specs.Scenario.{Scenario, first_state, limit_of}
use Rattle.replay_session.specs.Session.{turn_of, trail_of}
use Rattle.replay_session.specs.Work.{work_on}
use Rattle.scenario.proofs.TrailFacts.{within}
use Rattle.replay_session.proofs.SessionSteps.{an-error, followed, loads-followed, no-error, word-dropped, writes-need}
use Rattle.replay_session.proofs.TrySteps.{stays-near}
use Rattle.replay_session.proofs.WorkSteps.{moves-followed}
use Rattle.replay_session.proofs.session.Session.edit.Goals as goal

pub follow-requires : goal.follow-requires
unfolding turn_of
follow-requires c = record {
  within = within c.args.self.now.trail c.args.self.now.scenario.image _
      c.args.self.now.loads (c.effect-effect.ensures.loaded c.requires);
}

pub invariant_of-self-else-is_err : goal.invariant_of-self-else-is_err
unfolding turn_of
invariant_of-self-else-is_err c = record {
  loads =
      loads-followed c.args.self.now.scenario _ c.args.edit _ _ c.in_ok-edit.ensures.ok c.follow.ensures.loaded
      c.args.self.now.loads;
  right =
      followed c.edits_follow.ensures c.args.self.now.scenario _ c.args.edit _ _ _ c.requires
      c.effect-effect.ensures.effect c.in_ok-edit.ensures.ok
      (no-error c.follow.result (sym c.is_err.ensures.value ∙ c.if-is_err.false) c.follow.ensures.right)
      c.args.self.now.right;
  near =
      subst (λ (sc : Scenario). sc.step ≤ limit_of sc) (sym c.in_ok-edit.ensures.ok)
      (stays-near c.args.self.now.scenario c.args.edit c.args.self.now.near);
}

pub invariant_of-self-then-is_err : goal.invariant_of-self-then-is_err
unfolding turn_of
invariant_of-self-then-is_err c =
    let (write, same) = an-error c.follow.result (sym c.is_err.ensures.value ∙ c.if-is_err.true)
    c.follow.ensures.same in
    let sc = c.args.self.now.scenario in
    let drop : Scenario → Scenario = λ after. record after { words = take (length after.words - 1) after.words } in
    let back : c.drop_word.new.self ≡ sc =
    c.drop_word.ensures ∙ ap drop c.in_ok-edit.ensures.ok
    ∙ word-dropped sc c.args.edit (subst IsWrite c.effect-effect.ensures.effect write) in
    record {
      loads = rw (same, back) c.args.self.now.loads;
      right = rw (same, back) c.args.self.now.right;
      near = rw back c.args.self.now.near;
    }

pub returns-then-is_err-clause-err : goal.returns-then-is_err-clause-err
unfolding turn_of
returns-then-is_err-clause-err c =
    let (write, same) = an-error c.follow.result (sym c.is_err.ensures.value ∙ c.if-is_err.true)
    c.follow.ensures.same in
    let sc = c.args.self.now.scenario in
    let wrote = subst IsWrite c.effect-effect.ensures.effect write in
    let drop : Scenario → Scenario = λ after. record after { words = take (length after.words - 1) after.words } in
    let back : c.drop_word.new.self ≡ sc =
    c.drop_word.ensures ∙ ap drop c.in_ok-edit.ensures.ok ∙ word-dropped sc c.args.edit wrote in
    (refl, writes-need sc c.args.edit wrote, λ i. record { scenario = back i; lines = c.args.self.now.lines })

pub returns-clause-moves : goal.returns-clause-moves
unfolding turn_of trail_of
returns-clause-moves c = λ whole.
    let sc = c.args.self.now.scenario in
    let P : Effect → Type 0 = λ effect. EditMoves (EffectShows effect (first_state sc) sc.setup sc.marks)
    (work_on c.args.self.now.trail) (work_on c.follow.new.self) in
    subst P c.effect-effect.ensures.effect
    (moves-followed c.keeps_lower.ensures _ sc _ _ c.args.self.now.right
    (no-error c.follow.result (sym c.is_err.ensures.value ∙ c.if-is_err.false) c.follow.ensures.kept)
    c.follow.ensures.spacing c.follow.ensures.meter whole)

pub invariant_of-self : goal.invariant_of-self
invariant_of-self c =
    let same = c.in_err-edit.ensures.err.1 in record {
      loads = rw same c.args.self.now.loads;
      right = rw same c.args.self.now.right;
      near = rw same c.args.self.now.near;
    }

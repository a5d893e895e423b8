use Rattle.std.proofs.Common.{Bool, true, cond, [], ◌∷◌, refl, subst, sym}
use Rattle.std.specs.Prelude.{OnOk, is_ok}
use Rattle.replay_session.specs.Session.{scenario_of}
use Rattle.replay_session.specs.Stages.{stage_of}
use Rattle.tries.specs.Stages.{stage_of_tries}
use Rattle.tries.specs.Tries.{PlanMoves, TriedUpTo, gathered}
use Rattle.tries.proofs.PlanSteps.{none-tried, one-tried}
use Rattle.tries.proofs.trying.Tries.try_if.Goals as goal

pub returns-then-is_wanted-clause-tried : goal.returns-then-is_wanted-clause-tried
returns-then-is_wanted-clause-tried c =
    let sc = scenario_of c.args.self.now.viewer.session in
    let range = c.args.self.now.range in
    let old = gathered (stage_of_tries c.args.self.now) c.args.text.now.bytes.items in
    let new = gathered (stage_of_tries c.try_byte.new.self) c.try_byte.new.text.bytes.items in
    subst
    (λ (w : Bool). TriedUpTo (is_ok c.try_byte.result) sc range (cond w (c.args.attempt ∷ []) []) old new)
    (sym c.if-is_wanted.true)
    (one-tried sc range c.try_byte.result c.args.attempt old new c.try_byte.ensures.tried c.try_byte.ensures.kept)

pub returns-then-is_wanted-clause-work : goal.returns-then-is_wanted-clause-work
returns-then-is_wanted-clause-work c =
    let old = stage_of c.args.self.now.viewer.session in
    let new = stage_of c.try_byte.new.self.viewer.session in
    subst (λ (w : Bool). OnOk c.try_byte.result (PlanMoves (cond w (c.args.attempt ∷ []) []) old new))
    (sym c.if-is_wanted.true) c.try_byte.ensures.work

pub returns-else-is_wanted-clause-work : goal.returns-else-is_wanted-clause-work
returns-else-is_wanted-clause-work c =
    let old = stage_of c.args.self.now.viewer.session in
    subst (λ (w : Bool). PlanMoves (cond w (c.args.attempt ∷ []) []) old old) (sym c.if-is_wanted.false) refl

pub returns-else-is_wanted-clause-tried : goal.returns-else-is_wanted-clause-tried
returns-else-is_wanted-clause-tried c =
    let sc = scenario_of c.args.self.now.viewer.session in
    let range = c.args.self.now.range in
    let old = gathered (stage_of_tries c.args.self.now) c.args.text.now.bytes.items in
    subst (λ (w : Bool). TriedUpTo true sc range (cond w (c.args.attempt ∷ []) []) old old) (sym c.if-is_wanted.false)
    (none-tried sc range old)

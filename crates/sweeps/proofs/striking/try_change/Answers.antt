use Rattle.std.proofs.Common.{◌∷◌, [], ap, sym, ◌∙◌, subst}
use Rattle.std.proofs.lemmas.Result.{on_ok_weaker}
use Rattle.sweep_plans.specs.declared.change.Change.{Change}
use Rattle.sweep_plans.specs.declared.change.Change.TheVariants.{Once}
use Rattle.sweeps.specs.Standing.{IsAt}
use Rattle.sweeps.specs.Sweeps.{CountsMore}
use Rattle.sweeps.proofs.RecallSteps.{at-once}
use Rattle.sweeps.proofs.striking.try_change.Goals as goal

pub try_glitch-requires-clause-at : goal.try_glitch-requires-clause-at
try_glitch-requires-clause-at c =
    (at-once c.args.scenario.now c.args.site.now.standing c.args.next.step c.in-Once.step c.in-Once.glitch
    c.requires.before.standing
    (subst (IsAt c.args.scenario.now c.args.site.now.standing) c.in-Once.is c.requires.at)).1.0

pub try_glitch-requires-clause-right : goal.try_glitch-requires-clause-right
try_glitch-requires-clause-right c =
    (at-once c.args.scenario.now c.args.site.now.standing c.args.next.step c.in-Once.step c.in-Once.glitch
    c.requires.before.standing
    (subst (IsAt c.args.scenario.now c.args.site.now.standing) c.in-Once.is c.requires.at)).1.1

pub returns-in-Once-clause-met : goal.returns-in-Once-clause-met
returns-in-Once-clause-met c =
    let step = (at-once c.args.scenario.now c.args.site.now.standing c.args.next.step c.in-Once.step c.in-Once.glitch
    c.requires.before.standing
    (subst (IsAt c.args.scenario.now c.args.site.now.standing) c.in-Once.is c.requires.at)).0 in
    on_ok_weaker c.try_glitch.result (λ met.
    subst (λ (change : Change). CountsMore c.args.counts.now c.try_glitch.new.counts c.args.settings.with_output
    c.args.scenario.now (change ∷ []) c.args.out.now.items c.try_glitch.new.out.items)
    (ap (λ k. Once k c.in-Once.glitch) (sym step) ∙ sym c.in-Once.is) met) c.try_glitch.ensures.met

pub returns-in_default-clause-here : goal.returns-in_default-clause-here
returns-in_default-clause-here c =
    on_ok_weaker c.try_change_at.result (λ same. ap (λ r. r.step) same ∙ c.requires.here) c.try_change_at.ensures.recall

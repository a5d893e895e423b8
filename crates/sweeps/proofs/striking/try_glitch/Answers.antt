use Rattle.std.proofs.Common.{◌≡◌, ◌+◌, ◌-◌, ◌<◌, ◌++◌, ◌∷◌, [], ap, refl, sym, ◌∙◌, subst}
use Rattle.std.proofs.lemmas.Result.{on_ok_weaker}
use Rattle.texts.specs.Tallied.{entries_of, with_text}
use Rattle.scenario.specs.Scenario.{Scenario}
use Rattle.sweep_plans.specs.declared.change.Change.TheVariants.{Once}
use Rattle.sweeps.specs.Outcomes.{IsOutcome, Met, TakesSteps, standing}
use Rattle.sweeps.specs.Recall.{Passes, Recalls}
use Rattle.sweeps.specs.Standing.{state_before}
use Rattle.sweeps.specs.Tables.{met_text}
use Rattle.sweeps.specs.declared.recall.Recall.{Recall}
use Rattle.sweeps.proofs.Steps.{counted-more, counts-join, counts-one, counts-recalled}
use Rattle.sweeps.proofs.striking.try_glitch.Goals as goal

pub outcome_at-requires-clause-passing : goal.outcome_at-requires-clause-passing
outcome_at-requires-clause-passing c =
    let s = state_before c.args.scenario.now c.args.struck.step in
    subst (λ setup. Passes s setup c.args.struck.glitch c.passing_of-passing.result) c.setup.ensures
    (c.passing_of-passing.ensures s c.requires.before.shows)

pub returns-clause-here : goal.returns-clause-here
returns-clause-here c =
    on_ok_weaker c.keep.result (λ e. e ∙ ap (λ (r : Recall). r.step) c.in_ok-count.ensures.recall ∙ c.requires.here)
    c.keep.ensures.step

pub returns-clause-met : goal.returns-clause-met
unfolding TakesSteps
returns-clause-met c =
    let sc = c.args.scenario.now in
    let wo = c.args.settings.with_output in
    let glitch = c.args.struck.glitch in
    let change = Once c.args.struck.step glitch in
    let fork = c.args.site.now.fork in
    let s = state_before sc c.args.struck.step in
    let old = c.args.counts.now in
    let now = c.count.new.self in
    let out = c.args.out.now.items in
    let m : Met = record { change = change; outcome = c.in_ok-outcome.outcome; steps = sc.step - fork.step } in
    let passes = subst (λ setup. Passes s setup glitch c.passing_of-passing.result) c.setup.ensures
    (c.passing_of-passing.ensures s c.requires.before.shows) in
    let steps : c.step.result - fork.step ≡ m.steps = ap (λ n. n - fork.step) (c.step.ensures
    ∙ ap (λ (sc : Scenario). sc.step) c.outcome_at.ensures.same) in
    let told : Recalls wo sc now.recall → IsOutcome wo sc change m.outcome =
    λ h. c.in_ok-outcome.ensures.outcome (subst (Recalls wo sc) c.in_ok-count.ensures.recall h) in
    let here : now.recall.step ≡ c.args.struck.step = ap (λ (r : Recall). r.step) c.in_ok-count.ensures.recall
    ∙ c.requires.here in
    let there = sym here in
    let met = counts-one wo sc old now m out c.count.new.out.items
    (λ first met h. counted-more wo sc first met m old now h (c.in_ok-outcome.ensures.outcome h.recalled)
    (fork.step, (c.requires.before.continues change c.requires.at).step, refl)
    (c.in_ok-count.ensures.entries ∙ ap (with_text (entries_of old.tallies)) c.text.ensures) c.in_ok-count.ensures.edits
    (c.in_ok-count.ensures.steps ∙ ap (λ n. standing (old.steps + n)) steps) c.in_ok-count.ensures.recall)
    (λ first met h. c.in_ok-count.ensures.text ∙ (λ i. out ++ met_text (h.tallies i) change (c.text.ensures i))) in
    on_ok_weaker c.keep.result (λ so.
    counts-join wo sc old now (record now { recall = c.keep.new.recall }) (change ∷ []) [] out c.count.new.out.items
    c.count.new.out.items met
    (counts-recalled wo sc now c.keep.new.recall c.count.new.out.items (λ h.
    so wo sc c.requires.before.unmarked (subst (λ k. k < sc.step) there c.requires.before.below)
    (subst (λ k. Passes (state_before sc k) sc.setup glitch c.passing_of-passing.result) there passes)
    (subst (λ k. IsOutcome wo sc (Once k glitch) m.outcome) there (told h)) h))) c.keep.ensures.so

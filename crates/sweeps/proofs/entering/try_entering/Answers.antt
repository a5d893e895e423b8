use Rattle.std.proofs.Common.{◌≡◌, ◌+◌, ◌-◌, ◌++◌, ap, refl, ◌∙◌}
use Rattle.texts.specs.Tallied.{entries_of, with_text}
use Rattle.sweeps.specs.Outcomes.{Met, TakesSteps, standing}
use Rattle.sweeps.specs.Tables.{met_text}
use Rattle.sweeps.proofs.Steps.{counted-more, counts-one}
use Rattle.sweeps.proofs.entering.try_entering.Goals as goal

pub outcome_entering-requires-clause-before : goal.outcome_entering-requires-clause-before
outcome_entering-requires-clause-before c = c.requires.fork.step.within

pub returns-clause-met : goal.returns-clause-met
unfolding TakesSteps
returns-clause-met c =
    let sc = c.args.scenario.now in
    let fork = c.args.site.now.fork in
    let m : Met = record {
      change = c.args.change;
      outcome = c.in_ok-outcome.outcome.items;
      steps = sc.step - fork.step;
    } in
    let steps : c.step.result - fork.step ≡ m.steps = ap (λ n. n - fork.step) (c.step.ensures
    ∙ ap (λ s. s.step) c.outcome_entering.ensures.same) in
    counts-one c.args.with_output sc c.args.counts.now c.count.new.self m c.args.out.now.items c.count.new.out.items
    (λ first met h. counted-more c.args.with_output sc first met m c.args.counts.now c.count.new.self h
    c.in_ok-outcome.ensures.outcome
    (fork.step, c.requires.fork.step, refl) (c.in_ok-count.ensures.entries
    ∙ ap (with_text (entries_of c.args.counts.now.tallies)) c.deref.ensures.value) c.in_ok-count.ensures.edits
    (c.in_ok-count.ensures.steps ∙ ap (λ n. standing (c.args.counts.now.steps + n)) steps) c.in_ok-count.ensures.recall)
    (λ first met h. c.in_ok-count.ensures.text ∙ (λ i. c.args.out.now.items
    ++ met_text (h.tallies i) c.args.change (c.deref.ensures.value i)))

use Rattle.std.proofs.Common.{[], arith}
use Rattle.std.proofs.lemmas.Result.{on_ok_weaker}
use Rattle.sweeps.proofs.RecallSteps.{fork-at}
use Rattle.sweeps.proofs.Steps.{counts-join, counts-recalled}
use Rattle.sweeps.proofs.striking.try_step.Goals as goal

pub hold_ends-requires : goal.hold_ends-requires
hold_ends-requires c =
    let below = c.requires.before.below in
    let there = fork-at c.args.scenario.now c.args.step c.args.site.now c.requires.before in
    omega (arith, below, there)

pub returns-clause-met : goal.returns-clause-met
returns-clause-met c =
    let sc = c.args.scenario.now in
    let wo = c.args.settings.with_output in
    let old = c.args.counts.now in
    let out = c.args.out.now.items in
    let arrived = c.arrive.new.self in
    on_ok_weaker c.try_changes.result (λ met.
    counts-join wo sc old (record old { recall = arrived }) c.try_changes.new.counts [] c.args.changes.now out out
    c.try_changes.new.out.items
    (counts-recalled wo sc old arrived out (λ h.
    c.arrive.ensures.so wo sc c.requires.runs (c.in_ok-hold_ends.ensures.so h))) met)
    c.try_changes.ensures.met

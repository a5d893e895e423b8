use Rattle.std.proofs.Common.{ℕ, ◌+◌, ◌-◌, ◌<◌, ◌≤◌, List, length, sym, ◌∙◌, subst, arith}
use Rattle.std.proofs.lemmas.Result.{on_ok_weaker}
use Rattle.scenario.specs.Scenario.{Scenario}
use Rattle.sweep_plans.specs.declared.change.Change.{Change}
use Rattle.sweep_plans.specs.declared.change.Change.TheVariants.{Once}
use Rattle.sweep_plans.specs.declared.change.Glitch.TheVariants.{Skip}
use Rattle.sweeps.specs.Landmarks.{NoneFrom}
use Rattle.sweeps.specs.LoneSkips.{IsFound}
use Rattle.sweeps.specs.Outcomes.{IsOutcome}
use Rattle.sweeps.specs.Sweeps.{CountsMore}
use Rattle.sweeps.proofs.LoneSteps.{get-some, lone-facts}
use Rattle.sweeps.proofs.PairSteps.{pair-absent, pair-there}
use Rattle.sweeps.proofs.Steps.{counts-none}
use Rattle.sweeps.proofs.pairs.try_foreseen.Goals as goal

pub outcome_at-requires-clause-first : goal.outcome_at-requires-clause-first
outcome_at-requires-clause-first c =
    let later = c.requires.joins.meets.before in
    let from = c.requires.from in
    omega (arith, later, from)

pub outcome_at-requires-clause-rows : goal.outcome_at-requires-clause-rows
outcome_at-requires-clause-rows c =
    let rows = c.requires.joins.rows in
    let below = c.requires.below in
    omega (arith, rows, below)

inside : (later first rows end : ℕ) → later < end → end < first + rows → first ≤ later + 1 → later + 1 - first < rows
inside later first rows end below reach from = omega arith

pub returns-in-Some-clause-met : goal.returns-in-Some-clause-met
returns-in-Some-clause-met c =
    let now = c.args.scenario.now in
    let first = c.args.first in
    let wo = first.with_output in
    let fork = c.args.fork.now in
    let lone = c.args.counts.now.recall.lone in
    let join = c.requires.joins in
    let later = c.args.later in
    let at = join.meets.before in
    let from = c.requires.from in
    let low : lone.landmarks.first ≤ later + 1 = omega (arith, at, from) in
    let got = get-some lone.rows.items (later + 1 - lone.landmarks.first)
    (inside later lone.landmarks.first (length lone.rows.items) c.args.end c.requires.below join.rows low) in
    let found = subst (IsFound first.code got.0) c.in-Some.is (c.in_ok-found.ensures got.0 got.1) in
    let past = c.requires.past in
    let none : NoneFrom fork.step now.marks = λ k high. c.requires.quiet k (omega (arith, high, past)) in
    let below : later < now.step = let less = c.requires.below in let within = c.requires.within in omega
    (arith, less, within) in
    on_ok_weaker c.count_pair.result (λ more sc left takes start met h.
    let facts = lone-facts wo sc now first.step lone fork.machine fork.step c.args.end later first.code got.0 left
    h.recalled.lone join c.requires.shows none from below got.1 in
    let pair = pair-there now first.code first.step later (facts.0 ∙ found.0) in
    let text = subst (λ (text : List ℕ). IsOutcome wo now (Once later Skip) text) (sym (c.text.ensures ∙ found.1))
    facts.1 in
    let outcome = subst (λ (s : Scenario). IsOutcome wo s (Once later Skip) c.text.result.now) left text in
    subst (λ (xs : List Change). CountsMore c.args.counts.now c.count_pair.new.counts wo sc xs c.args.out.now.items
    c.count_pair.new.out.items) (sym pair) (more sc outcome takes) start met h) c.count_pair.ensures.met

pub returns-in-None-clause-met : goal.returns-in-None-clause-met
returns-in-None-clause-met c sc left takes start met h =
    let now = c.args.scenario.now in
    let first = c.args.first in
    let wo = first.with_output in
    let fork = c.args.fork.now in
    let lone = c.args.counts.now.recall.lone in
    let join = c.requires.joins in
    let later = c.args.later in
    let at = join.meets.before in
    let from = c.requires.from in
    let low : lone.landmarks.first ≤ later + 1 = omega (arith, at, from) in
    let got = get-some lone.rows.items (later + 1 - lone.landmarks.first)
    (inside later lone.landmarks.first (length lone.rows.items) c.args.end c.requires.below join.rows low) in
    let found = subst (IsFound first.code got.0) c.in-None.is (c.in_ok-found.ensures got.0 got.1) in
    let past = c.requires.past in
    let none : NoneFrom fork.step now.marks = λ k high. c.requires.quiet k (omega (arith, high, past)) in
    let below : later < now.step = let less = c.requires.below in let within = c.requires.within in omega
    (arith, less, within) in
    let facts = lone-facts wo sc now first.step lone fork.machine fork.step c.args.end later first.code got.0 left
    h.recalled.lone join c.requires.shows none from below got.1 in
    subst (λ (xs : List Change). CountsMore c.args.counts.now c.args.counts.now wo sc xs c.args.out.now.items
    c.args.out.now.items) (sym (pair-absent now first.code first.step later (facts.0 ∙ found)))
    (counts-none c.args.counts.now wo sc c.args.out.now.items) start met h

use Rattle.std.proofs.Common.{◌≡◌, ◌≤◌, true, false, is_some, List, ap, sym, ◌∙◌, subst, arith}
use Rattle.guest_machine.specs.Shows.{Shows}
use Rattle.scenario.specs.Scenario.{run_of}
use Rattle.sweep_plans.specs.declared.change.Change.{Change}
use Rattle.sweeps.specs.Standing.{standing_step, state_before}
use Rattle.sweeps.specs.Sweeps.{CountsMore}
use Rattle.sweeps.proofs.ForkSteps.{fork-before, fork-later}
use Rattle.sweeps.proofs.PairSteps.{leads-same, pair-absent, pair-there}
use Rattle.sweeps.proofs.Steps.{counts-none}
use Rattle.sweeps.proofs.pairs.try_later.Goals as goal

pub go_on-requires : goal.go_on-requires
go_on-requires c =
    let sc = c.args.scenario.now in
    let last_fork = c.requires.last_fork in
    let before = fork-before last_fork.0 sc.step (run_of sc) c.args.last_fork.now last_fork.2 in
    let next = last_fork.1 in
    omega (arith, before, next)

pub standing_step-requires-clause-shows : goal.standing_step-requires-clause-shows
standing_step-requires-clause-shows c =
    let sc = c.args.scenario.now in
    let last_fork = c.requires.last_fork in
    let within : c.args.later ≤ sc.step = let below = c.requires.below in omega (arith, below) in
    let fork = fork-later sc c.setup.result.now c.marks.result.now last_fork.0 (run_of sc) c.args.last_fork.now
    c.in_ok-fork.fork c.args.later c.setup.ensures c.marks.ensures within
    (c.in_ok-fork.ensures.fork last_fork.0 (run_of sc)) (leads-same last_fork.0 (run_of sc)) last_fork.2 in
    subst (λ k. Shows c.in_ok-fork.fork.machine (state_before sc k)) c.in_ok-fork.ensures.step fork.shows

pub try_pair-requires-clause-fork : goal.try_pair-requires-clause-fork
try_pair-requires-clause-fork c =
    let sc = c.args.scenario.now in
    let last_fork = c.requires.last_fork in
    let within : c.args.later ≤ sc.step = let below = c.requires.below in omega (arith, below) in
    fork-later sc c.setup.result.now c.marks.result.now last_fork.0 (run_of sc) c.args.last_fork.now
    c.in_ok-fork.fork c.args.later c.setup.ensures c.marks.ensures within
    (c.in_ok-fork.ensures.fork last_fork.0 (run_of sc)) (leads-same last_fork.0 (run_of sc)) last_fork.2

pub returns-then-is_some-clause-fork : goal.returns-then-is_some-clause-fork
returns-then-is_some-clause-fork c =
    let sc = c.args.scenario.now in
    let last_fork = c.requires.last_fork in
    let within : c.args.later ≤ sc.step = let below = c.requires.below in omega (arith, below) in
    fork-later sc c.setup.result.now c.marks.result.now last_fork.0 (run_of sc) c.args.last_fork.now
    c.in_ok-fork.fork c.args.later c.setup.ensures c.marks.ensures within
    (c.in_ok-fork.ensures.fork last_fork.0 (run_of sc)) (leads-same last_fork.0 (run_of sc)) last_fork.2

pub returns-clause-fork : goal.returns-clause-fork
returns-clause-fork c =
    let sc = c.args.scenario.now in
    let last_fork = c.requires.last_fork in
    let within : c.args.later ≤ sc.step = let below = c.requires.below in omega (arith, below) in
    fork-later sc c.setup.result.now c.marks.result.now last_fork.0 (run_of sc) c.args.last_fork.now
    c.in_ok-fork.fork c.args.later c.setup.ensures c.marks.ensures within
    (c.in_ok-fork.ensures.fork last_fork.0 (run_of sc)) (leads-same last_fork.0 (run_of sc)) last_fork.2

pub returns-then-is_some-clause-met : goal.returns-then-is_some-clause-met
returns-then-is_some-clause-met c sc left takes =
    let now = c.args.scenario.now in
    let first = c.args.first in
    let there : is_some (standing_step now first.code c.args.later) ≡ true = ap is_some (sym c.standing_step.ensures)
    ∙ sym c.is_some.ensures ∙ c.if-is_some.true in
    subst (λ (xs : List Change). CountsMore c.args.counts.now c.try_pair.new.counts first.with_output sc xs
    c.args.out.now.items c.try_pair.new.out.items) (sym (pair-there now first.code first.step c.args.later there))
    (c.in_ok-try_pair.ensures.met sc left takes)

pub returns-clause-met : goal.returns-clause-met
returns-clause-met c sc left takes =
    let now = c.args.scenario.now in
    let first = c.args.first in
    let absent : is_some (standing_step now first.code c.args.later) ≡ false = ap is_some (sym c.standing_step.ensures)
    ∙ sym c.is_some.ensures ∙ c.if-is_some.false in
    subst (λ (xs : List Change). CountsMore c.args.counts.now c.args.counts.now first.with_output sc xs
    c.args.out.now.items c.args.out.now.items) (sym (pair-absent now first.code first.step c.args.later absent))
    (counts-none c.args.counts.now first.with_output sc c.args.out.now.items)

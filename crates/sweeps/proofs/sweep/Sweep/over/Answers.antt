use Rattle.std.proofs.Common.{◌≡◌, ◌≤◌, ◌++◌, List, [], ℕ, sym, ◌∙◌, subst}
use Rattle.guest_machine.specs.Shows.{Shows}
use Rattle.scenario.specs.Scenario.{Scenario, first_state, limit_of}
use Rattle.sweeps.specs.Sweeps.{Counted, HasMet, scenario_of, tells_output}
use Rattle.sweeps.specs.Tables.{rows_text}
use Rattle.sweeps.proofs.BeginSteps.{begins-shown}
use Rattle.sweeps.proofs.sweep.Sweep.over.Goals as goal

pub invariant_of-result : goal.invariant_of-result
invariant_of-result c =
    let same = sym (c.count_unedited.ensures.same ∙ c.in_ok-run.ensures) in
    let shows = begins-shown c.image.result.now c.args.scenario c.image.ensures c.requires.unedited c.in_ok-start.start
    c.in_ok-start.ensures in record {
      near = subst (λ (s : Scenario). s.step ≤ limit_of s) same c.requires.near;
      unmarked = subst (λ (s : Scenario). s.marks ≡ []) same c.requires.unmarked;
      continued = tt;
      starts = subst (λ (s : Scenario). Shows c.in_ok-start.start (first_state s)) same shows;
      copied = subst (λ (s : Scenario). c.args.input.items ≡ s.setup.input) same c.requires.copied;
    }

pub returns-clause-scenario : goal.returns-clause-scenario
unfolding scenario_of
returns-clause-scenario c = c.count_unedited.ensures.same ∙ c.in_ok-run.ensures

pub returns-clause-met : goal.returns-clause-met
unfolding HasMet scenario_of tells_output
returns-clause-met c =
    subst (λ (s : Scenario). (first : List ℕ) × Counted c.in_ok-counts.counts c.args.with_output s first []
    × (c.count_unedited.new.out.items ≡ c.args.out.now.items ++ rows_text first []))
    (sym c.count_unedited.ensures.same) c.in_ok-counts.ensures.counted

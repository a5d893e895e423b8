use Rattle.std.proofs.Common.{◌≡◌, ◌≤◌, ap, sym, ◌∙◌, ◌++◌, subst, List, [], Some}
use Rattle.guest_machine.specs.Shows.{Shows}
use Rattle.run_values.specs.declared.span.Span.{Span}
use Rattle.scenario.specs.Scenario.{Scenario, first_state, limit_of}
use Rattle.sweep_plans.specs.declared.change.Change.{Change}
use Rattle.sweeps.specs.Covered.{AreCovered, CoversMore, range_of, table_of}
use Rattle.sweeps.specs.Sites.{Continues, IsLastFork}
use Rattle.sweeps.specs.Standing.{IsBelow, Stands, all_changes, changes_at, standing_in}
use Rattle.sweeps.specs.Sweeps.{CountsMore, HasMet, scenario_of, tells_output}
use Rattle.sweeps.proofs.ChangeSteps.{found-none, found-some, stands-there}
use Rattle.sweeps.proofs.CoverSteps.{covers-none, may-cover}
use Rattle.sweeps.proofs.Steps.{counts-none, meets-from}
use Rattle.sweeps.proofs.sweep.Sweep.visit.Goals as goal

pub try_site-requires-clause-stands : goal.try_site-requires-clause-stands
try_site-requires-clause-stands c =
    let self = c.args.self.now in
    let there = found-some self.run.scenario _ c.in_ok-found.found c.in-Some.site c.in-Some.is
    c.in_ok-found.ensures.found
    in
    subst (λ (s : Scenario). Stands s c.in-Some.site.standing) (sym c.find.ensures.same)
    (stands-there self.run.scenario c.args.plan.now self.near self.unmarked c.place-place.result c.in-Some.site.standing
    there.0).0

pub try_site-requires-clause-below : goal.try_site-requires-clause-below
try_site-requires-clause-below c =
    let self = c.args.self.now in
    let there = found-some self.run.scenario _ c.in_ok-found.found c.in-Some.site c.in-Some.is
    c.in_ok-found.ensures.found
    in
    subst (λ (s : Scenario). IsBelow s.step c.in-Some.site.standing) (sym c.find.ensures.same)
    (stands-there self.run.scenario c.args.plan.now self.near self.unmarked c.place-place.result c.in-Some.site.standing
    there.0).1

pub try_site-requires-clause-fork : goal.try_site-requires-clause-fork
try_site-requires-clause-fork c =
    let self = c.args.self.now in
    subst (λ (s : Scenario). Continues s c.in-Some.site.standing c.in-Some.site.fork) (sym c.find.ensures.same)
    (found-some self.run.scenario _ c.in_ok-found.found c.in-Some.site c.in-Some.is c.in_ok-found.ensures.found).1

pub returns-in_default-clause-met : goal.returns-in_default-clause-met
unfolding HasMet scenario_of tells_output
returns-in_default-clause-met c =
    let self = c.args.self.now in
    let plan = c.args.plan.now in
    let none = found-none self.run.scenario _ c.in_ok-found.found c.in_default.not-Some c.in_ok-found.ensures.found in
    let nothing = ap (all_changes self.run.scenario plan) (ap (standing_in self.run.scenario plan) (sym
    c.place-place.ensures) ∙ none) in
    meets-from self.with_output self.run.scenario c.find.new.run.scenario self.counts self.counts _
    c.args.out.now.items c.args.out.now.items c.find.ensures.same
    (subst (λ (xs : List Change). CountsMore self.counts self.counts self.with_output self.run.scenario xs
    c.args.out.now.items c.args.out.now.items) (sym nothing)
    (counts-none self.counts self.with_output self.run.scenario c.args.out.now.items))

pub returns-clause-met : goal.returns-clause-met
unfolding HasMet scenario_of tells_output
returns-clause-met c =
    let self = c.args.self.now in
    let plan = c.args.plan.now in
    let there = found-some self.run.scenario _ c.in_ok-found.found c.in-Some.site c.in-Some.is
    c.in_ok-found.ensures.found
    in
    let all = ap (all_changes self.run.scenario plan) (ap (standing_in self.run.scenario plan) (sym
    c.place-place.ensures) ∙ there.0) in
    meets-from self.with_output self.run.scenario c.try_site.new.run.scenario self.counts c.try_site.new.counts _
    c.args.out.now.items c.try_site.new.out.items (c.try_site.ensures.same ∙ c.find.ensures.same)
    (subst (λ (xs : List Change). CountsMore self.counts c.try_site.new.counts self.with_output self.run.scenario xs
    c.args.out.now.items c.try_site.new.out.items) (sym all)
    (subst (λ (s : Scenario). CountsMore self.counts c.try_site.new.counts self.with_output s
    (all_changes s plan (Some c.in-Some.site.standing)) c.args.out.now.items c.try_site.new.out.items)
    c.find.ensures.same c.in_ok-try_site.ensures.met))

pub returns-in_default-clause-covered : goal.returns-in_default-clause-covered
unfolding scenario_of range_of table_of
returns-in_default-clause-covered c done fits are =
    let self = c.args.self.now in
    let plan = c.args.plan.now in
    let none = found-none self.run.scenario _ c.in_ok-found.found c.in_default.not-Some c.in_ok-found.ensures.found in
    let nothing = ap (all_changes self.run.scenario plan) (ap (standing_in self.run.scenario plan) (sym
    c.place-place.ensures) ∙ none) in
    let more = done ++ changes_at self.run.scenario plan c.args.place in
    subst (λ (s : Scenario). AreCovered s more self.coverage.range self.coverage.table.items)
    (sym c.find.ensures.same)
    (subst (λ (xs : List Change). AreCovered self.run.scenario (done ++ xs) self.coverage.range
    self.coverage.table.items) (sym nothing)
    (covers-none self.run.scenario self.coverage.range.start self.coverage.table.items done self.coverage.range.len
    are))

pub returns-clause-covered : goal.returns-clause-covered
unfolding scenario_of range_of table_of
returns-clause-covered c done fits are =
    let self = c.args.self.now in
    let plan = c.args.plan.now in
    let new = c.try_site.new.coverage.table.items in
    let there = found-some self.run.scenario _ c.in_ok-found.found c.in-Some.site c.in-Some.is
    c.in_ok-found.ensures.found
    in
    let is = ap (standing_in self.run.scenario plan) (sym c.place-place.ensures) ∙ there.0 in
    let may = may-cover self.run.scenario plan c.args.place self.coverage.range done self.coverage.table.items
    c.in-Some.site.standing fits are is in
    let covers = subst (λ (s : Scenario). CoversMore s self.coverage.range.start
    (all_changes s plan (Some c.in-Some.site.standing)) self.coverage.table.items new) c.find.ensures.same
    (c.in_ok-try_site.ensures.covers may) in
    let more = done ++ changes_at self.run.scenario plan c.args.place in
    subst (λ (r : Span). AreCovered c.try_site.new.run.scenario more r new) (sym c.try_site.ensures.range)
    (subst (λ (s : Scenario). AreCovered s more self.coverage.range new)
    (sym (c.try_site.ensures.same ∙ c.find.ensures.same))
    (subst (λ (xs : List Change). AreCovered self.run.scenario (done ++ xs) self.coverage.range new)
    (sym (ap (all_changes self.run.scenario plan) is))
    (covers done self.coverage.range.len are)))

pub invariant_of-self-in-Break-branch-2 : goal.invariant_of-self-in-Break-branch-2
invariant_of-self-in-Break-branch-2 c =
    let self = c.args.self.now in
    let same = sym (c.try_site.ensures.same ∙ c.find.ensures.same) in
    record {
      near = subst (λ (s : Scenario). s.step ≤ limit_of s) same self.near;
      unmarked = subst (λ (s : Scenario). s.marks ≡ []) same self.unmarked;
      continued = subst (λ (s : Scenario). IsLastFork s c.find.new.last_fork) same c.find.ensures.last_fork;
      starts = subst (λ (s : Scenario). Shows self.start (first_state s)) same self.starts;
      copied = subst (λ (s : Scenario). self.input.items ≡ s.setup.input) same self.copied;
    }

pub invariant_of-self-2 : goal.invariant_of-self-2
invariant_of-self-2 c =
    let self = c.args.self.now in
    let same = sym (c.try_site.ensures.same ∙ c.find.ensures.same) in
    record {
      near = subst (λ (s : Scenario). s.step ≤ limit_of s) same self.near;
      unmarked = subst (λ (s : Scenario). s.marks ≡ []) same self.unmarked;
      continued = c.keep_last_fork.ensures;
      starts = subst (λ (s : Scenario). Shows self.start (first_state s)) same self.starts;
      copied = subst (λ (s : Scenario). self.input.items ≡ s.setup.input) same self.copied;
    }

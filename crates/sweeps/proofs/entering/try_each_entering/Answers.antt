use Rattle.std.proofs.Common.{◌∷◌, [], List, get_or, take, take_all, refl, sym, ◌∙◌, subst, arith}
use Rattle.std.proofs.lemmas.List.{take_more}
use Rattle.checkpoints.specs.Forks.{IsForkFor}
use Rattle.run_values.specs.declared.span.Span.{Span}
use Rattle.scenario.specs.Edits.{row}
use Rattle.scenario.specs.Scenario.{Scenario, run_of}
use Rattle.sweep_plans.specs.Changes.{edit_of}
use Rattle.sweep_plans.specs.declared.change.Change.{Change}
use Rattle.sweep_plans.specs.declared.change.Change.TheVariants.{Byte}
use Rattle.sweeps.specs.Covered.{CoversMore}
use Rattle.sweeps.specs.Standing.{IsAt, Stands}
use Rattle.sweeps.specs.Sweeps.{CountsMore}
use Rattle.sweeps.proofs.CoverSteps.{covers-join, covers-none}
use Rattle.sweeps.proofs.Steps.{counts-join, counts-none}
use Rattle.sweeps.proofs.entering.try_each_entering.Goals as goal

pub loop-change-init : goal.loop-change-init
loop-change-init c = record {
  range = refl;
  same = refl;
  met = counts-none c.args.counts.now c.args.with_output c.args.scenario.now c.args.out.now.items;
  covers = covers-none c.args.scenario.now c.args.coverage.now.range.start c.args.coverage.now.table.items;
}

pub loop-change-preserved : goal.loop-change-preserved
loop-change-preserved c =
    let sc = c.args.scenario.now in
    let changes = c.args.changes.now in
    let i = c.loop-change.change-index in
    let change = get_or changes i (Byte 0 0) in
    let wo = c.args.with_output in
    let here = subst (λ (s : Scenario). CountsMore c.loop-change.counts c.try_entering.new.counts wo s (change ∷ [])
    c.loop-change.out.items c.try_entering.new.out.items) c.loop-change.invariant.same
    c.in_ok-try_entering.ensures.met in
    record {
      range = c.try_entering.ensures.range ∙ c.loop-change.invariant.range;
      same = c.try_entering.ensures.same ∙ c.loop-change.invariant.same;
      met = subst (λ (xs : List Change). CountsMore c.args.counts.now c.try_entering.new.counts wo sc xs
          c.args.out.now.items
          c.try_entering.new.out.items) (sym (take_more changes i (Byte 0 0) c.loop-change-test.true))
          (counts-join wo sc c.args.counts.now c.loop-change.counts c.try_entering.new.counts (take i changes)
          (change ∷ [])
          c.args.out.now.items c.loop-change.out.items c.try_entering.new.out.items c.loop-change.invariant.met here);
      covers = subst (λ (xs : List Change). CoversMore sc c.args.coverage.now.range.start xs
          c.args.coverage.now.table.items
          c.try_entering.new.coverage.table.items) (sym (take_more changes i (Byte 0 0) c.loop-change-test.true))
          (covers-join sc c.args.coverage.now.range.start (take i changes) (change ∷ [])
          c.args.coverage.now.table.items c.loop-change.coverage.table.items
          c.try_entering.new.coverage.table.items c.loop-change.invariant.covers
          (subst (λ (r : Span). CoversMore sc r.start (change ∷ []) c.loop-change.coverage.table.items
          c.try_entering.new.coverage.table.items) c.loop-change.invariant.range
          (subst (λ (s : Scenario). CoversMore s c.loop-change.coverage.range.start (change ∷ [])
          c.loop-change.coverage.table.items c.try_entering.new.coverage.table.items) c.loop-change.invariant.same
          c.in_ok-try_entering.ensures.covers)));
    }

pub try_entering-requires-clause-stands : goal.try_entering-requires-clause-stands
try_entering-requires-clause-stands c =
    subst (λ (s : Scenario). Stands s c.args.site.now.standing) (sym c.loop-change.invariant.same) c.requires.stands

pub try_entering-requires-clause-at : goal.try_entering-requires-clause-at
try_entering-requires-clause-at c =
    let change = get_or c.args.changes.now c.loop-change.change-index (Byte 0 0) in
    subst (λ (s : Scenario). IsAt s c.args.site.now.standing change) (sym c.loop-change.invariant.same)
    (c.requires.at c.loop-change.change-index (Byte 0 0) c.loop-change-test.true)

pub try_entering-requires-clause-fork : goal.try_entering-requires-clause-fork
try_entering-requires-clause-fork c =
    let change = get_or c.args.changes.now c.loop-change.change-index (Byte 0 0) in
    subst (λ (s : Scenario). IsForkFor (row s (edit_of change)).effect (run_of s) s.step c.args.site.now.fork)
    (sym c.loop-change.invariant.same)
    (c.requires.fork change (c.requires.at c.loop-change.change-index (Byte 0 0) c.loop-change-test.true))

pub returns-clause-met : goal.returns-clause-met
returns-clause-met c =
    subst (λ (xs : List Change). CountsMore c.args.counts.now c.loop-change.counts c.args.with_output
    c.args.scenario.now xs c.args.out.now.items c.loop-change.out.items)
    (take_all c.loop-change.change-index c.args.changes.now (omega arith)) c.loop-change.invariant.met

pub returns-clause-covers : goal.returns-clause-covers
returns-clause-covers c =
    subst (λ (xs : List Change). CoversMore c.args.scenario.now c.args.coverage.now.range.start xs
    c.args.coverage.now.table.items c.loop-change.coverage.table.items)
    (take_all c.loop-change.change-index c.args.changes.now (omega arith)) c.loop-change.invariant.covers

use Rattle.std.proofs.Common.{◌∙◌, sym, subst, List}
use Rattle.std.proofs.lemmas.Result.{on_ok_weaker}
use Rattle.std.specs.List.{All}
use Rattle.sweep_plans.specs.declared.change.Change.{Change}
use Rattle.sweeps.specs.Covered.{CoversMore}
use Rattle.sweeps.specs.Standing.{IsAt}
use Rattle.sweeps.specs.Sweeps.{CountsMore}
use Rattle.sweeps.proofs.CoverSteps.{byte-at, byte-changes, byte-next}
use Rattle.sweeps.proofs.entering.try_byte.Goals as goal

pub changes-requires : goal.changes-requires
changes-requires c = byte-next c.args.site.now.standing c.requires.byte

pub try_each_entering-requires-clause-at : goal.try_each_entering-requires-clause-at
try_each_entering-requires-clause-at c =
    subst (All (IsAt c.args.scenario.now c.args.site.now.standing)) (sym (c.deref.ensures.value
    ∙ c.in_ok-changes.ensures))
    (byte-at c.args.scenario.now c.args.plan.now c.args.site.now.standing c.requires.near c.requires.unmarked
    c.requires.byte)

pub returns-clause-met : goal.returns-clause-met
returns-clause-met c =
    let sc = c.args.scenario.now in
    let all = c.deref.ensures.value ∙ c.in_ok-changes.ensures
    ∙ byte-changes sc c.args.plan.now c.args.site.now.standing c.requires.byte in
    on_ok_weaker c.try_each_entering.result (subst (λ (xs : List Change). CountsMore c.args.counts.now
    c.try_each_entering.new.counts c.args.settings.with_output sc xs c.args.out.now.items
    c.try_each_entering.new.out.items) all) c.try_each_entering.ensures.met

pub returns-clause-covers : goal.returns-clause-covers
returns-clause-covers c =
    let sc = c.args.scenario.now in
    let all = c.deref.ensures.value ∙ c.in_ok-changes.ensures
    ∙ byte-changes sc c.args.plan.now c.args.site.now.standing c.requires.byte in
    on_ok_weaker c.try_each_entering.result (subst (λ (xs : List Change). CoversMore sc
    c.args.coverage.now.range.start xs c.args.coverage.now.table.items c.try_each_entering.new.coverage.table.items)
    all)
    c.try_each_entering.ensures.covers

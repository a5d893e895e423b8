use Rattle.std.proofs.lemmas.Result.{IfOk-weaker}
use Rattle.checkpoints.specs.Sides.{IsSides}
use Rattle.checkpoints.proofs.KnownSteps.{known}
use Rattle.scenario.specs.Scenario.{first_state}
use Rattle.scenario.proofs.TrailFacts.{told}
use Rattle.sweeps.proofs.CoverSteps.{covers-first, covers-nothing}
use Rattle.sweeps.proofs.entering.unedited_table.Goals as goal

pub returns-then-range-eq0 : goal.returns-then-range-eq0
returns-then-range-eq0 c =
    covers-nothing c.args.run.now.scenario c.args.range c.new.result.items c.if-range-eq0.true c.new.ensures.items

pub returns : goal.returns
returns c =
    let sc = c.args.run.now.scenario in
    let range = c.args.range in
    IfOk-weaker c.sides.result _ _
    (λ table tells. covers-first sc range table.items
    (known (first_state sc) sc.setup sc.marks sc.step range table.items
    (told sc _ _ _ _ (λ start setup marks step. IsSides start setup marks step range table.items) c.setup.ensures
    c.marks.ensures c.step.ensures tells c.args.run.now.right))) c.sides.ensures

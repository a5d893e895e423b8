use Rattle.std.proofs.Common.{◌≡◌, length, ap, arith}
use Rattle.scenario.specs.Scenario.{Scenario}
use Rattle.scenario.proofs.EditLaws.{inside}
use Rattle.scenario.proofs.EditSteps.{switched-at, switched-view}
use Rattle.scenario.proofs.scenario.Scenario.switch.Goals as goal

pub returns : goal.returns
returns c =
    let there = inside (length c.args.self.now.rules) c.args.index _ c.requires in
    let same : length c.self.inside.suppressions.items ≡ length c.args.self.now.rules = ap
    (λ (sc : Scenario). length sc.rules) c.self.view_is in
    switched-view _ _ _ c.args.index c.args.on c.self.view_is
    (switched-at c.self.inside.suppressions.items c.args.index _ _ _ c.args.on (omega arith) c.index_mut.ensures.value
    c.switch.ensures)

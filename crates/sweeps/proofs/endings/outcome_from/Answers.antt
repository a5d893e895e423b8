use Rattle.std.proofs.Common.{◌-◌, ◌≤◌, [], sym, subst, arith}
use Rattle.std.proofs.lemmas.Result.{IfOk-weaker}
use Rattle.guest_machine.specs.Run.{pre}
use Rattle.guest_machine.specs.Shows.{Shows}
use Rattle.sweeps.specs.Landmarks.{Outlines}
use Rattle.sweeps.proofs.LandmarkSteps.{met-end, shows-on}
use Rattle.sweeps.proofs.endings.outcome_from.Goals as goal

pub returns-then-pursued : goal.returns-then-pursued
returns-then-pursued c ends s shows =
    let sc = c.args.scenario.now in
    let wo = c.args.settings.with_output in
    let pursued = c.in_ok-pursued.pursued in
    let is = c.in_ok-pursued.ensures in
    subst (Outlines wo sc (pre s sc.setup [] (sc.step - c.args.from))) (sym c.in_ok-outcome.ensures.cases)
    (met-end wo sc c.args.joint.landmarks.now pursued.machine c.args.joint.lead c.args.from pursued.step
    c.args.joint.known.now s ends (is.met c.if-pursued.true) is.low is.high (is.shows s shows))

pub returns : goal.returns
returns c =
    let sc = c.args.scenario.now in
    let wo = c.args.settings.with_output in
    let from = c.args.from in
    let pursued = c.in_ok-pursued.pursued in
    let is = c.in_ok-pursued.ensures in
    let high = is.high in
    let last = c.step.ensures in
    let later : pursued.step ≤ c.step.result = omega (arith, high, last) in
    IfOk-weaker c.outcome.result _ _ (λ outcome told ends s shows.
    subst (Outlines wo sc (pre s sc.setup [] (sc.step - from))) (sym told)
    (c.in_ok-text.ensures (pre s sc.setup [] (sc.step - from))
    (subst (λ n. Shows c.in_ok-end.end (pre s sc.setup [] (n - from))) last
    (shows-on sc.setup c.setup.result.now c.args.machine pursued.machine c.in_ok-end.end from pursued.step
    c.step.result c.setup.ensures is.low later is.shows c.in_ok-end.ensures.shows s shows)))) c.outcome.ensures

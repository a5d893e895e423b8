use Rattle.std.proofs.Common.{◌++◌, ◌∙◌, ap}
use Rattle.std.specs.Prelude.{option_map, option_to_list}
use Rattle.guest_machine.specs.Exec.{exec}
use Rattle.checkpoints.proofs.HappeningSteps.{happens-so, one-at-most}
use Rattle.checkpoints.proofs.happenings.step_noting.Goals as goal

pub returns-clause-few : goal.returns-clause-few
returns-clause-few c = one-at-most c.args.found.now.items _ _ c.in_ok-push_if.ensures

pub returns-clause-found : goal.returns-clause-found
returns-clause-found c s h =
    let shown = c.in_ok-stepped.ensures.shows s h in
    c.in_ok-push_if.ensures
    ∙ ap (λ found. c.args.found.now.items ++ option_to_list found)
    (ap (option_map (λ what. record { step = c.args.step; what = what })) c.what_happens-what.ensures
    ∙ happens-so c.args.step c.args.setup.now s (exec s c.args.setup.now) c.pc.result c.counts_of-old.result
    c.counts_of.result (c.pc.ensures (exec s c.args.setup.now) shown) (c.counts_of-old.ensures s h)
    (c.counts_of.ensures (exec s c.args.setup.now) shown))

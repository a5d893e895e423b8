use Rattle.std.proofs.Common.{subst}
use Rattle.std.proofs.lemmas.Result.{IfOk-weaker}
use Rattle.guest_machine.specs.Shows.{Shows}
use Rattle.sweeps.specs.Standing.{state_before}
use Rattle.sweeps.proofs.ForkSteps.{fork-later}
use Rattle.sweeps.proofs.LandmarkSteps.{outline-behind}
use Rattle.sweeps.proofs.endings.outcome_behind.Goals as goal

pub returns-then-is_ahead : goal.returns-then-is_ahead
returns-then-is_ahead c =
    let now = c.args.scenario.now in
    let from = c.args.from in
    IfOk-weaker c.outcome_from.result _ _ (λ outcome told s one leads fork ends.
    let next = fork-later now c.setup.result.now c.marks.result.now s one c.args.fork.now c.in_ok-next.next from
    c.setup.ensures c.marks.ensures c.requires.within (c.in_ok-next.ensures.fork s one) leads fork in
    let shows = subst (λ k. Shows c.in_ok-next.next.machine (state_before now k)) c.in_ok-next.ensures.step next.shows
    in
    outline-behind c.args.settings.with_output now from outcome c.requires.quiet c.requires.within
    (told ends.1 (state_before now from) shows)) c.outcome_from.ensures

pub returns : goal.returns
returns c =
    let now = c.args.scenario.now in
    let from = c.args.from in
    IfOk-weaker c.outcome_from-2.result _ _ (λ outcome told s one leads fork ends.
    let next = fork-later now c.setup.result.now c.marks.result.now s one c.args.fork.now c.in_ok-next.next from
    c.setup.ensures c.marks.ensures c.requires.within (c.in_ok-next.ensures.fork s one) leads fork in
    let shows = subst (λ k. Shows c.in_ok-next.next.machine (state_before now k)) c.in_ok-next.ensures.step next.shows
    in
    outline-behind c.args.settings.with_output now from outcome c.requires.quiet c.requires.within
    (told ends.0 (state_before now from) shows)) c.outcome_from-2.ensures

use Rattle.std.proofs.Common.{◌≡◌, ◌+◌, ◌-◌, ◌/◌, ◌≤◌, [], sym, ◌∙◌, subst, arith}
use Rattle.guest_machine.specs.Run.{pre}
use Rattle.guest_machine.specs.Shows.{Shows}
use Rattle.guest_machine.specs.State.{State}
use Rattle.guest_machine.specs.declared.setup.Setup.{Setup}
use Rattle.sweeps.specs.Landmarks.{EndsIn, Follows}
use Rattle.sweeps.proofs.LandmarkSteps.{all-steps, ends-after, ends-in}
use Rattle.sweeps.proofs.endings.Ends.along.Goals as goal

pub returns : goal.returns
returns c =
    let sc = c.args.scenario.now in
    let wo = c.args.settings.with_output in
    let first = c.args.before.now.step in
    let held = c.run_held.new.self in
    let landmarks = c.run.new.self in
    let last = c.in_ok-last.last in
    let after = c.in_ok-after.after in
    let begun = c.begin-landmarks.ensures in
    let holds = c.in_ok-held.ensures in
    let run = c.in_ok-last.ensures in
    let at : landmarks.first ≡ first = run.first ∙ holds.first ∙ begun.first in
    let few : c.min-count.result ≤ (c.step.result - first) / 16 = omega (arith, c.min-count.ensures) in
    let count : landmarks.steps ≡ sc.step - first = all-steps sc.step first c.step.result c.min-count.result
    c.begin-landmarks.result.steps held.steps landmarks.steps c.step.ensures few begun.steps
    holds.steps run.steps in
    let here = subst (λ (setup : Setup). Follows setup held c.in_ok-held.held) (c.setup.ensures
    ∙ sym c.setup-2.ensures) holds.follows in
    let follows = subst (λ (setup : Setup). Follows setup landmarks last) c.setup-2.ensures
    (run.follows holds.spaced here) in
    let on : (s : State) → Shows last s → Shows after (pre s sc.setup [] 1) = λ s h.
    subst (λ (setup : Setup). Shows after (pre s setup [] 1)) c.setup-3.ensures (c.in_ok-after.ensures.shows s h) in
    let low : landmarks.first ≤ sc.step = let within = c.requires in omega (arith, at, within) in
    let same : landmarks.steps ≡ sc.step + 0 - landmarks.first = omega (arith, at, count) in
    let steps : landmarks.steps ≡ sc.step - landmarks.first = omega (arith, at, count) in (
      subst (EndsIn wo sc landmarks 0) (sym c.in_ok-new.ensures)
          (ends-in wo sc landmarks last 0 c.in_ok-same.same.items same follows c.in_ok-same.ensures),
      subst (EndsIn wo sc landmarks 1) (sym c.in_ok-new-2.ensures)
          (ends-after wo sc landmarks last after c.in_ok-ahead.ahead.items low steps (run.spaced holds.spaced) follows
          on c.in_ok-ahead.ensures),
    )

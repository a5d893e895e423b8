use Rattle.std.proofs.Common.{◌≡◌, length, ap, arith, subst, sym, ◌∙◌}
use Rattle.guest_machine.specs.declared.setup.Setup.{Setup}
use Rattle.sweeps.specs.Landmarks.{AreSpaced, Follows}
use Rattle.sweeps.specs.declared.landmarks.Landmarks.{Landmarks}
use Rattle.sweeps.proofs.LandmarkSteps.{none-follow, none-spaced}
use Rattle.sweeps.proofs.LoneSteps.{foreseen-held, foreseen-on, none-foreseen}
use Rattle.sweeps.proofs.lone_skips.LoneSkips.along.Goals as goal

pub loop-step-init : goal.loop-step-init
loop-step-init c =
    let skips = c.begin-skips.result in
    let begun = c.begin-skips.ensures in
    let none = ap length begun.rows in
    let zero = begun.steps in
    record {
      first = begun.first;
      steps = omega (arith, zero);
      rows = omega (arith, none);
      spaced = none-spaced skips.landmarks begun.machines;
      follows = none-follow c.args.scenario.now.setup skips.landmarks c.in_ok-machine.machine begun.machines;
      foreseen = none-foreseen c.args.settings.with_output c.args.scenario.now skips begun.rows;
    }

pub loop-step-preserved : goal.loop-step-preserved
loop-step-preserved c =
    let sc = c.args.scenario.now in
    let inv = c.loop-step.invariant in
    let hold = c.in_ok-held.ensures in
    let add = c.in_ok-add.ensures in
    let run = c.in_ok-machine-2.ensures in
    let from = c.loop-step.auto.step in
    let held = c.hold.new.self in
    let added = c.add.new.self in
    let more = add.rows in
    let size = inv.rows in
    let count = inv.steps in
    let same : added.landmarks.steps ≡ held.steps = ap (λ (l : Landmarks). l.steps) add.landmarks in
    let steps = hold.steps in
    let next = run.steps in
    let next-machine = c.in_ok-machine-2.machine in
    let here = c.in_ok-held.held in
    let spaced = subst AreSpaced (sym add.landmarks) (hold.spaced inv.spaced) in
    let follows = hold.follows sc.setup inv.follows in
    let there = subst (λ (l : Landmarks). Follows sc.setup l here) (sym add.landmarks) follows in
    let goes = run.follows spaced (subst (λ (setup : Setup). Follows setup added.landmarks here) (sym c.setup.ensures)
    there) in
    let foreseen = foreseen-held c.args.settings.with_output sc c.loop-step.skips held hold.first hold.another
    (count ∙ sym size) inv.foreseen in
    record {
      first = run.first ∙ ap (λ (l : Landmarks). l.first) add.landmarks ∙ hold.first ∙ inv.first;
      steps = omega (arith, next, same, steps, count, from);
      rows = omega (arith, more, size, from);
      spaced = run.spaced spaced;
      follows = subst (λ (setup : Setup). Follows setup c.run.new.self next-machine) c.setup.ensures goes;
      foreseen = foreseen-on c.args.settings.with_output sc added c.run.new.self run.first run.machines
          (add.foreseen follows foreseen);
    }

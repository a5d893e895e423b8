use Rattle.std.proofs.Common.{◌≡◌, ◌*◌, length, refl, rules, arith, subst, sym}
use Rattle.guest_machine.specs.Shows.{Shows}
use Rattle.guest_machine.specs.State.{State}
use Rattle.guest_machine.specs.declared.machine.Machine.{Machine}
use Rattle.sweeps.specs.Landmarks.{Follows}
use Rattle.sweeps.specs.declared.landmarks.Landmarks.{Landmarks}
use Rattle.sweeps.proofs.LandmarkSteps.{held-another, held-follows, held-spaced}
use Rattle.sweeps.proofs.landmarks.Landmarks.hold.Goals as goal

pub returns : goal.returns
returns c =
    let old = c.args.self.now in
    let new : Landmarks = record old { machines = c.push.new.self } in
    let machine = c.share_moving.new.self in
    let held : c.len.result ≡ length old.machines.items = search rules in
    let long : old.steps ≡ 16 * length old.machines.items = omega (arith, held) in
    let items = c.in_ok-push.ensures.items in
    let on : (s : State) → Shows machine s → Shows c.in_ok-next.next s = λ s h.
    c.in_ok-next.ensures.copy s (subst (λ (m : Machine). Shows m s) c.in_ok-next.ensures.same h) in
    record {
      first = refl;
      steps = refl;
      another = held-another old new machine items refl long;
      follows = λ setup follows. held-follows old new machine items refl long setup c.in_ok-next.next on
          (subst (λ (m : Machine). Follows setup old m) (sym c.in_ok-next.ensures.same) follows);
      spaced = held-spaced old new machine items refl long;
    }

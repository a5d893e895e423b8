use Rattle.std.proofs.Common.{◌≡◌, List, ◌+◌, ◌-◌, ◌∙◌, ap, arith, get_or, length, subst, sym}
use Rattle.std.proofs.lemmas.List.{get_or_default}
use Rattle.guest_machine.specs.Shows.{Shows}
use Rattle.guest_machine.specs.declared.machine.Machine.{Machine}
use Rattle.checkpoints.specs.Places.{places_of, own_places, AreCopies}
use Rattle.checkpoints.proofs.PlaceSteps.{copies-on, parted, same-copies, machine-count, some-machines, placed}
use Rattle.checkpoints.proofs.PlaceSteps.{placed-length}
use Rattle.checkpoints.proofs.held.Held.part.Goals as goal

pub loop-self-init : goal.loop-self-init
unfolding places_of
loop-self-init c = same-copies (placed c.args.self.now.machines.items c.args.self.now.more)

pub loop-self-preserved : goal.loop-self-preserved
unfolding places_of
loop-self-preserved c =
    let held = c.loop-self.self in
    let ms = held.machines.items in
    let some = some-machines held in
    let one : c.index.result.now ≡ get_or ms (length ms - 1) c.index.result.now =
    c.index.ensures ∙ ap (λ k. get_or ms k c.index.result.now) (omega (arith, c.len.ensures, machine-count held)) in
    let back : held.more - 1 + 1 ≡ held.more = omega (arith, c.loop-self-test.true) in
    let copies : AreCopies (placed ms held.more) (placed c.push.new.self.items (held.more - 1)) =
    subst (λ n. AreCopies (placed ms n) (placed c.push.new.self.items (held.more - 1))) back
    (subst (λ (xs : List Machine). AreCopies (placed ms (held.more - 1 + 1)) (placed xs (held.more - 1)))
    (sym c.in_ok-push.ensures.items)
    (parted ms c.in_ok-copy.copy (held.more - 1) some
    (λ d s h. c.in_ok-copy.ensures s (subst (λ (m : Machine). Shows m s)
    (get_or_default ms (length ms - 1) d c.index.result.now (omega (arith, some)) ∙ sym one) h)))) in
    copies-on _ _ _ c.loop-self.invariant copies

pub returns-clause-own : goal.returns-clause-own
unfolding places_of own_places
returns-clause-own c =
    let held = c.loop-self.self in
    omega (arith, placed-length held.machines.items held.more (some-machines held), c.loop-self-test.false)

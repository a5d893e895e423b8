use Rattle.std.proofs.Common.{◌≡◌, ℕ, List, ◌+◌, ◌++◌, ◌∷◌, [], ◌∙◌, ap, arith, length, sym}
use Rattle.std.proofs.lemmas.List.{length-append}
use Rattle.guest_machine.specs.declared.machine.Machine.{Machine}
use Rattle.checkpoints.specs.Places.{places_of, own_places}
use Rattle.checkpoints.proofs.PlaceSteps.{machine-count, some-machines, placed, placed-length, placed-none}
use Rattle.checkpoints.proofs.held.Held.push.Goals as goal

-- where each has its own, there are no more
none-more : (own n all : ℕ) → own ≡ all → all ≡ own + n → n ≡ 0
none-more own n all e f = omega arith

pub returns-clause-more : goal.returns-clause-more
unfolding places_of own_places
returns-clause-more c =
    let held = c.part.new.self in
    let ms = held.machines.items in
    let none = none-more (length ms) held.more (length (placed ms held.more)) c.in_ok-part.ensures.own
    (placed-length ms held.more (some-machines held)) in (
      placed ms held.more,
      c.part.ensures.same,
      ap (placed c.push.new.self.items) none ∙ placed-none c.push.new.self.items ∙ c.in_ok-push.ensures.items
          ∙ ap (λ (xs : List Machine). xs ++ c.args.machine ∷ []) (sym (ap (placed ms) none ∙ placed-none ms)),
    )

pub invariant_of-self : goal.invariant_of-self
unfolding places_of own_places
invariant_of-self c =
    let held = c.part.new.self in
    let ms = held.machines.items in
    let all = length (placed ms held.more) in
    let none = none-more (length ms) held.more all c.in_ok-part.ensures.own
    (placed-length ms held.more (some-machines held)) in
    record {
      begun = omega (arith, c.push.ensures.lower_bound, held.begun);
      apart = λ more. omega (arith, held.apart more, c.push.ensures.lower_bound);
      few = omega (
        arith,
        c.push.ensures.upper_bound,
        none,
        machine-count held,
        c.in_ok-part.ensures.own,
        c.requires.room,
        c.part.ensures.same.count,
      );
    }

pub returns-clause-few : goal.returns-clause-few
unfolding places_of own_places
returns-clause-few c =
    let held = c.part.new.self in
    let ms = held.machines.items in
    let all = length (placed ms held.more) in
    let none = none-more (length ms) held.more all c.in_ok-part.ensures.own
    (placed-length ms held.more (some-machines held)) in
    let size : length c.push.new.self.items ≡ length ms + 1 =
    ap length c.in_ok-push.ensures.items ∙ length-append ms (c.args.machine ∷ []) in
    omega (
      arith,
      placed-length c.push.new.self.items held.more (omega (arith, size)),
      size,
      none,
      c.in_ok-part.ensures.own,
      c.part.ensures.same.count,
    )

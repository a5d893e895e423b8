use Rattle.std.proofs.Common.{◌≡◌, ◌+◌, ◌-◌, ◌∙◌, arith, inl, inr, length, sym}
use Rattle.std.proofs.lemmas.Bool.{cases_lt}
use Rattle.checkpoints.specs.Places.{places_of}
use Rattle.checkpoints.proofs.PlaceSteps.{machine-count, some-machines, placed, placed-length, placed-last, placed-at}
use Rattle.checkpoints.proofs.held.Held.stay.Goals as goal

pub invariant_of-self : goal.invariant_of-self
unfolding places_of
invariant_of-self c =
    let held = c.args.self.now in
    let ms = held.machines.items in
    let n = held.more in
    let some = some-machines held in
    let count = machine-count held in
    let long = placed-length ms n some in
    record {
      begun = held.begun;
      apart = λ more. elim (cases_lt 0 n) [
        | inl several ↦ held.apart several
        | inr none ↦ omega (arith, c.requires.second, long, count, none)
      ];
      few = omega (arith, c.requires.few, c.requires.more, c.len.ensures, long, count);
    }

pub returns-clause-count : goal.returns-clause-count
unfolding places_of
returns-clause-count c =
    let held = c.args.self.now in
    let ms = held.machines.items in
    let n = held.more in
    let some = some-machines held in
    let count = machine-count held in
    let long = placed-length ms n some in
    let more = c.args.places - c.len.result in
    let all : length ms + more ≡ c.args.places = omega (arith, c.requires.more, c.len.ensures, long, count) in
    placed-length ms more some ∙ all

pub returns-clause-before : goal.returns-clause-before
unfolding places_of
returns-clause-before c i d low =
    let held = c.args.self.now in
    let ms = held.machines.items in
    let n = held.more in
    let some = some-machines held in
    let count = machine-count held in
    let long = placed-length ms n some in
    let more = c.args.places - c.len.result in
    let all : length ms + more ≡ c.args.places = omega (arith, c.requires.more, c.len.ensures, long, count) in
    placed-at ms more i d some (omega (arith, all, low, c.requires.more))
    ∙ sym (placed-at ms n i d some (omega (arith, low, long)))

pub returns-clause-later : goal.returns-clause-later
unfolding places_of
returns-clause-later c i d up low =
    let held = c.args.self.now in
    let ms = held.machines.items in
    let n = held.more in
    let some = some-machines held in
    let count = machine-count held in
    let long = placed-length ms n some in
    let more = c.args.places - c.len.result in
    let all : length ms + more ≡ c.args.places = omega (arith, c.requires.more, c.len.ensures, long, count) in
    placed-last ms more i d some (omega (arith, up, long)) (omega (arith, all, low))
    ∙ sym (placed-last ms n (length (placed ms n) - 1) d some (omega (arith, long)) (omega (arith, long, some)))

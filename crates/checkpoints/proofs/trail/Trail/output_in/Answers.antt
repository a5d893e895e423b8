use Rattle.std.proofs.Common.{◌≡◌, ℕ, ◌+◌, ◌*◌, ◌/◌, ◌<◌, ap, arith, length, min}
use Rattle.std.proofs.lemmas.Result.{IfOk-weaker}
use Rattle.guest_machine.specs.Run.{pre}
use Rattle.checkpoints.specs.Places.{places_of}
use Rattle.checkpoints.specs.Trails.{machines_of, last_held, spacing_of}
use Rattle.checkpoints.proofs.SpacingSteps.{place-held}
use Rattle.checkpoints.proofs.TrailSteps.{some-held}
use Rattle.std.proofs.Math.Nat.{mul_comm}
use Rattle.checkpoints.proofs.HeldSteps.{copy-at}
use Rattle.checkpoints.proofs.trail.Trail.output_in.Goals as goal

-- how much is written at the end
end-of : (start len first more written all end : ℕ) → first ≡ start → more ≡ len → written ≡ all
    → end ≡ min (first + more) written
    → end ≡ min (start + len) all
end-of start len first more written all end is also whole least = omega arith

pub place_before-place-requires : goal.place_before-place-requires
unfolding machines_of last_held spacing_of
place_before-place-requires c =
    place-held c.args.self.now.spacing c.args.step _ c.args.self.now.apart (some-held c.args.self.now) c.requires

pub warm_copy-requires : goal.warm_copy-requires
unfolding machines_of last_held spacing_of
warm_copy-requires c =
    let s = c.args.self.now.spacing in
    let count = length (places_of c.args.self.now.held) in
    let held : c.args.step / s < count =
    place-held s c.args.step count c.args.self.now.apart (some-held c.args.self.now) c.requires in
    omega (arith, held, c.place_before-place.ensures.within)

pub returns : goal.returns
unfolding machines_of last_held spacing_of
returns c =
    let setup = c.args.setup.now in
    let marks = c.args.marks.now in
    let ms = (places_of c.args.self.now.held) in
    let place = c.place_before-place.result in
    let s = c.args.self.now.spacing in
    let held : c.args.step / s < length ms = place-held s c.args.step (length ms) c.args.self.now.apart
    (some-held c.args.self.now) c.requires in
    let low = c.place_before-place.ensures.within in
    let within : place < length ms = omega (arith, held, low) in
    let at : place * s ≡ s * place = mul_comm place s in
    IfOk-weaker c.collect.result _ _ (λ bytes told start empty h whole.
    told start
    (copy-at s ms c.in_ok-copy.copy place (place * s) start setup marks h.held c.in_ok-copy.ensures within at)
    (omega (
      arith,
      ap (λ n. length (pre start setup marks n).output) at,
      c.place_before-place.ensures.before start setup marks empty h,
    ))
    (end-of c.args.range.start c.args.range.len _ _ c.args.written _ c.lesser-end.result c.from.ensures c.from-2.ensures
    whole c.lesser-end.ensures)) c.collect.ensures

use Rattle.std.proofs.Common.{◌≡◌, ℕ, ◌+◌, ◌-◌, ◌*◌, ◌/◌, ◌<◌, ◌≤◌, min, max, length, subst, arith}
use Rattle.std.proofs.Math.Nat.{mul_comm, mul-div-le}
use Rattle.std.proofs.lemmas.Result.{IfOk-weaker, on_ok_weaker}
use Rattle.checkpoints.specs.Searches.{Hits, IsLast}
use Rattle.checkpoints.specs.Places.{places_of}
use Rattle.checkpoints.specs.Trails.{machines_of, last_held, spacing_of}
use Rattle.checkpoints.proofs.SpacingSteps.{place-held}
use Rattle.checkpoints.proofs.TrailSteps.{some-held}
use Rattle.checkpoints.specs.Work.{floor}
use Rattle.checkpoints.proofs.HeldSteps.{copy-at}
use Rattle.checkpoints.proofs.trail.Trail.last_in.Goals as goal

-- where the search begins
first-of : (s from end first : ℕ) → first ≡ max from (end / s * s) → first ≡ max from (floor s end)
first-of s from end first e = omega (arith, mul_comm (end / s) s)

-- the number of steps executed
price : (s old now new from end first : ℕ) → from < end → first ≡ max from ((end - 1) / s * s)
    → now ≡ min (old + (first - (end - 1) / s * s)) 18446744073709551615
    → new ≤ now + (end - first) → new ≤ old + (end - floor s (end - 1))
price s old now new from end first some e f g = omega (arith, mul_comm ((end - 1) / s) s, mul-div-le (end - 1) s)

pub warm_copy-requires : goal.warm_copy-requires
unfolding machines_of last_held spacing_of
warm_copy-requires c =
    place-held c.args.self.now.spacing (c.args.end - 1) _ c.args.self.now.apart
    (some-held c.args.self.now) c.requires.held

pub run_on-requires-clause-forward : goal.run_on-requires-clause-forward
run_on-requires-clause-forward c = omega (arith, c.later-first.ensures)

pub returns-clause-last : goal.returns-clause-last
unfolding machines_of last_held spacing_of
returns-clause-last c =
    let setup = c.args.setup.now in
    let marks = c.args.marks.now in
    let ms = (places_of c.args.self.now.held) in
    let s = c.args.self.now.spacing in
    let place = (c.args.end - 1) / s in
    let within : place < length ms = place-held s (c.args.end - 1) (length ms) c.args.self.now.apart
    (some-held c.args.self.now) c.requires.held in
    IfOk-weaker c.last_from.result _ _ (λ found told start h.
    let here = copy-at s ms c.in_ok-copy.copy place (place * s) start setup marks h.held c.in_ok-copy.ensures within
    (mul_comm place s) in
    let shown = c.in_ok-machine.ensures.shows start here in
    subst (λ n. IsLast (Hits c.args.sought start setup marks) n c.args.end found) (first-of s c.args.from
    (c.args.end - 1) c.later-first.result c.later-first.ensures) (told start shown)) c.last_from.ensures.last

pub returns-clause-price : goal.returns-clause-price
unfolding spacing_of
returns-clause-price c =
    on_ok_weaker c.last_from.result
    (price c.args.self.now.spacing c.args.meter.now c.run_on.new.meter c.last_from.new.meter c.args.from
    c.args.end c.later-first.result c.requires.some c.later-first.ensures c.in_ok-machine.ensures.meter)
    c.last_from.ensures.price

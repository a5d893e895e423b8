use Rattle.std.proofs.Common.{ℕ, ◌-◌, ◌*◌, ◌/◌, ◌<◌, ◌≤◌, ◌∙◌, [], ap, arith, length, sym, take, take_all}
use Rattle.std.proofs.lemmas.Result.{IfOk-weaker}
use Rattle.checkpoints.specs.Places.{places_of}
use Rattle.checkpoints.specs.Trails.{machines_of, last_held, spacing_of}
use Rattle.checkpoints.proofs.SpacingSteps.{place-held, place-low}
use Rattle.checkpoints.proofs.TrailSteps.{some-held}
use Rattle.std.proofs.Math.Nat.{mul_comm}
use Rattle.checkpoints.proofs.HappeningSteps.{none-yet}
use Rattle.checkpoints.proofs.HeldSteps.{copy-at}
use Rattle.checkpoints.proofs.trail.Trail.happened_below.Goals as goal

-- where the machine is held
held-for : (s from before n : ℕ) → 0 < s → from < before → 0 < n → s * (before / s) ≤ s * (n - 1) → from / s < n
held-for s from before n pos less some h =
    let there = place-held s before n pos some h in let low = place-low s from before pos (omega arith) in omega arith

pub warm_copy-requires : goal.warm_copy-requires
unfolding machines_of last_held spacing_of
warm_copy-requires c =
    held-for c.args.self.now.spacing c.args.from c.args.before _ c.args.self.now.apart (omega arith)
    (some-held c.args.self.now) c.requires

pub returns-then-from-before : goal.returns-then-from-before
returns-then-from-before c start h =
    c.new.ensures.items
    ∙ sym (ap (take c.args.most) (none-yet start c.args.setup.now c.args.marks.now c.args.from c.args.before
    c.if-from-before.true) ∙ take_all c.args.most [] (omega arith))

pub returns : goal.returns
unfolding machines_of last_held spacing_of
returns c =
    let setup = c.args.setup.now in
    let marks = c.args.marks.now in
    let ms = (places_of c.args.self.now.held) in
    let s = c.args.self.now.spacing in
    let place = c.args.from / s in
    let within : place < length ms =
    held-for s c.args.from c.args.before (length ms) c.args.self.now.apart (omega arith) (some-held c.args.self.now)
    c.requires in
    IfOk-weaker c.happened_from.result _ _ (λ found told start h.
    let here = copy-at s ms c.in_ok-copy.copy place (place * s) start setup marks h.held c.in_ok-copy.ensures within
    (mul_comm place s) in
    told start (c.in_ok-machine.ensures.shows start here)) c.happened_from.ensures

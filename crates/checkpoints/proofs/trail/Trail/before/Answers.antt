use Rattle.std.proofs.Common.{◌≡◌, ℕ, ◌+◌, ◌-◌, ◌*◌, ◌/◌, ◌∙◌, ap, subst, min, length, OnOk}
use Rattle.std.proofs.lemmas.Result.{IfOk-weaker, on_ok_weaker}
use Rattle.checkpoints.specs.Trails.{machines_of, meter_of, last_held, spacing_of}
use Rattle.checkpoints.proofs.SpacingSteps.{at-place, cost, top}
use Rattle.checkpoints.proofs.TrailSteps.{some-held}
use Rattle.checkpoints.proofs.trail.Trail.before.Goals as goal

pub returns-clause-right : goal.returns-clause-right
returns-clause-right c start right = c.run_before.ensures.right start (c.in_ok-reach.ensures.right start right)

pub returns-clause-shows : goal.returns-clause-shows
returns-clause-shows c =
    IfOk-weaker c.run_before.result _ _
    (λ machine shows start right. shows start (c.in_ok-reach.ensures.right start right)) c.run_before.ensures.shows

pub returns-clause-held : goal.returns-clause-held
unfolding last_held spacing_of
returns-clause-held c =
    let old = c.args.self.now in
    let mid = c.reach.new.self in
    let new = c.run_before.new.self in
    let s = old.spacing in
    let same : new.spacing ≡ s = c.run_before.ensures.spacing ∙ c.in_ok-reach.ensures.spacing in
    let size : length (machines_of new) ≡ length (machines_of mid) = ap length c.run_before.ensures.machines in
    let there = top s (length (machines_of old)) (c.args.step / s) (length (machines_of mid)) (some-held old)
    c.in_ok-reach.ensures.held in
    on_ok_weaker c.run_before.result
    (λ made. ap (λ k. k * (length (machines_of new) - 1)) same ∙ ap (λ n. s * (n - 1)) size ∙ there)
    c.run_before.ensures.meter

pub returns-clause-meter : goal.returns-clause-meter
unfolding last_held spacing_of
returns-clause-meter c =
    let old = c.args.self.now in
    let mid = c.reach.new.self in
    let new = c.run_before.new.self in
    let s = old.spacing in
    let step = c.args.step in
    let made = subst (λ (k : ℕ). OnOk c.run_before.result (meter_of new
    ≡ min (meter_of mid + (step - step / k * k)) 18446744073709551615)) c.in_ok-reach.ensures.spacing
    c.run_before.ensures.meter in
    on_ok_weaker c.run_before.result
    (cost s (length (machines_of old)) (step / s) step (meter_of old) (meter_of mid) (meter_of new) (some-held old)
    (at-place s step) c.in_ok-reach.ensures.meter) made

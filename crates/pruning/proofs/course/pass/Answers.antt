use Rattle.std.proofs.Common.{◌≡◌, ◌&&◌, Bool, true, false, ap, ◌∙◌}
use Rattle.guest_machine.specs.Exec.{has_touched, touches}
use Rattle.pruning.proofs.CourseSteps.{leads-more, leads-nowhere}
use Rattle.pruning.proofs.course.pass.Goals as goal

both : (a b : Bool) → (a && b) ≡ true → (a ≡ true) × (b ≡ true)
both true true h = (h, h)
both true false h = cc
both false b h = cc

pub loop-done-init : goal.loop-done-init
loop-done-init c = record {
  kept = λ word step h. h;
  leads = λ h. leads-nowhere c.args.keys.now.items c.args.setup.now c.args.from c.args.machine;
}

pub loop-done-preserved : goal.loop-done-preserved
unfolding touches
loop-done-preserved c =
    let inv = c.loop-done.invariant in
    let next = c.in_ok-next.ensures in
    let pushed = c.in_ok-is_whole.ensures in
    record {
      kept = λ word step h. pushed.kept word step (inv.kept word step h);
      leads = λ whole.
          let parts = both _ _ whole in
          leads-more _ _ c.args.setup.now c.args.from c.loop-done.done _ _ _ pushed.kept (inv.leads parts.0)
          (λ s h. (
            next.shows s h,
            λ a touched. pushed.told parts.1 a (ap (λ t. has_touched t a) (next.touched s h) ∙ touched),
          ));
    }

use Rattle.std.proofs.Common.{◌-◌, ◌*◌, ◌∙◌, ap, refl, length}
use Rattle.std.proofs.Math.Nat.{mul-zero}
use Rattle.guest_machine.specs.Run.{start_state}
use Rattle.checkpoints.specs.FirstUses.{uses_word}
use Rattle.checkpoints.specs.Trails.{machines_of, table_of, loaded_of, last_held, first_use, spacing_of}
use Rattle.checkpoints.proofs.HeldSteps.{one-held}
use Rattle.checkpoints.proofs.FirstSteps.{first-of-none}
use Rattle.checkpoints.proofs.trail.Trail.begin_apart.Goals as goal

pub returns-clause-right : goal.returns-clause-right
unfolding machines_of start_state last_held first_use table_of spacing_of
returns-clause-right c setup marks =
    let alone = c.in_ok-begin.ensures in
    let one = ap length alone in
    record {
      nothing_read = refl;
      nothing_ended = refl;
      nothing_called = refl;
      held = one-held c.args.spacing c.in_ok-start.start _ (start_state c.args.image.now) setup marks alone
          c.in_ok-start.ensures;
      uses =
          λ addr word. first-of-none (uses_word (start_state c.args.image.now) setup marks addr) _ _
          (ap (λ n. c.args.spacing * (n - 1)) one ∙ mul-zero c.args.spacing);
    }

pub returns-clause-first : goal.returns-clause-first
unfolding machines_of last_held spacing_of
returns-clause-first c =
    ap (λ n. c.args.spacing * (n - 1)) (ap length c.in_ok-begin.ensures) ∙ mul-zero c.args.spacing

pub returns-clause-loaded : goal.returns-clause-loaded
unfolding loaded_of table_of
returns-clause-loaded c a = c.in_ok-uses.ensures.ranges a ∙ c.segments.ensures.loads a

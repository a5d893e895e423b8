use Rattle.std.proofs.Common.{◌≡◌, List, subst, sym}
use Rattle.guest_machine.specs.Run.{pre}
use Rattle.guest_machine.specs.Shows.{Shows}
use Rattle.guest_machine.specs.State.{State}
use Rattle.guest_machine.specs.declared.machine.Machine.{Machine}
use Rattle.guest_machine.specs.declared.setup.Setup.{Setup}
use Rattle.run_values.specs.declared.alteration.Alteration.{Alteration}
use Rattle.checkpoints.specs.Trails.{IsRightFor}
use Rattle.checkpoints.specs.declared.trail.Trail.{Trail}
use Rattle.checkpoints.proofs.trail.Trail.run_before.Goals as goal

along : (new old : Trail) (start : State) (setup : Setup) (marks : List Alteration) → new ≡ old
    → IsRightFor old start setup marks → IsRightFor new start setup marks
along new old start setup marks same right = subst (λ (t : Trail). IsRightFor t start setup marks) (sym same) right

pub returns-clause-right : goal.returns-clause-right
returns-clause-right c start right =
    along _ _ start _ _ c.move_decoded_from.ensures.same
    (c.in_ok-machine.ensures.right start (along _ _ start _ _ c.copy_before.ensures.same right))

pub returns-clause-shows : goal.returns-clause-shows
returns-clause-shows c start right =
    subst (λ (m : Machine). Shows m (pre start c.args.setup.now c.args.marks.now c.args.step))
    (sym c.move_decoded_from.ensures.other)
    (c.in_ok-machine.ensures.shows start (along _ _ start _ _ c.copy_before.ensures.same right))

pub returns-in_err-machine-clause-right : goal.returns-in_err-machine-clause-right
returns-in_err-machine-clause-right c start right =
    c.run_from.ensures.right start (along _ _ start _ _ c.copy_before.ensures.same right)

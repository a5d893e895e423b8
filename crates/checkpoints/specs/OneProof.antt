-- That a trail is right for a run has at most one proof, so a type can keep it as a ghost field.
use Rattle.std.specs.Prelude.{ℕ, Bool, Option, Some, None}
use Rattle.std.proofs.Props.{props}
use Rattle.guest_machine.specs.State.{State}
use Rattle.guest_machine.specs.Shows.{Shows}
use Rattle.guest_machine.specs.declared.machine.Machine.{Machine}
use Rattle.checkpoints.specs.Edits.{IsRightForRun}
use Rattle.checkpoints.specs.Effects.{Run}
use Rattle.checkpoints.specs.FirstUses.{IsFirstBelow}
use Rattle.checkpoints.specs.declared.trail.Trail.{Trail}

pub shows-prop : (machine : Machine) (s : State) → IsProp (Shows machine s)
unfolding Shows
shows-prop machine s = hlevel props

first-prop : (p : ℕ → Bool) (n : ℕ) (found : Option ℕ) → IsProp (IsFirstBelow p n found)
first-prop p n None = hlevel props
first-prop p n (Some k) = hlevel props

pub right-prop : (trail : Trail) (run : Run) → IsProp (IsRightForRun trail run)
right-prop trail run = hlevel (shows-prop, first-prop, props)

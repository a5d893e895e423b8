-- That machines are on a course has at most one proof, so a type can keep it as a ghost field.
use Rattle.std.specs.Prelude.{ℕ, List}
use Rattle.std.proofs.Props.{props}
use Rattle.guest_machine.specs.State.{State}
use Rattle.guest_machine.specs.Shows.{Shows}
use Rattle.guest_machine.specs.declared.machine.Machine.{Machine}
use Rattle.guest_machine.specs.declared.setup.Setup.{Setup}
use Rattle.pruning.specs.Courses.{IsCourse}

shows-prop : (machine : Machine) (s : State) → IsProp (Shows machine s)
unfolding Shows
shows-prop machine s = hlevel props

pub course-prop : (keys : List ℕ) (setup : Setup) (apart : ℕ) (machines : List Machine)
    → IsProp (IsCourse keys setup apart machines)
course-prop keys setup apart machines = hlevel (shows-prop, props)

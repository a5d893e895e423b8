-- A trail is right for a run with only marks if it is right for the run with these marks as alterations.
use Rattle.std.specs.Prelude.{List}
use Rattle.guest_machine.specs.MarkedRun.{alterations_of}
use Rattle.guest_machine.specs.State.{State}
use Rattle.guest_machine.specs.declared.setup.Setup.{Setup}
use Rattle.run_values.specs.declared.mark.Mark.{Mark}
use Rattle.checkpoints.specs.Trails as Altered
use Rattle.checkpoints.specs.declared.trail.Trail.{Trail}

abbrev pub IsRightFor : Trail → State → Setup → List Mark → Type 0
IsRightFor trail start setup marks = Altered.IsRightFor trail start setup (alterations_of marks)

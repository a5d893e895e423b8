-- A run from step zero with only marks between steps. It is the run with these marks as alterations (`RunsAsMarked`).
use Rattle.std.specs.Prelude.{ℕ, zero, suc, ◌==◌, List, filter, fold, map}
use Rattle.guest_machine.specs.State.{State}
use Rattle.guest_machine.specs.Exec.{exec}
use Rattle.guest_machine.specs.Run.{marked}
use Rattle.guest_machine.specs.declared.setup.Setup.{Setup}
use Rattle.run_values.specs.Alterations.{alteration_of}
use Rattle.run_values.specs.declared.alteration.Alteration.{Alteration}
use Rattle.run_values.specs.declared.mark.Mark.{Mark}

-- marks as alterations
abbrev pub alterations_of : List Mark → List Alteration
alterations_of marks = map alteration_of marks

-- the marks of a step, in list order
abbrev pub marks_at : ℕ → List Mark → List Mark
marks_at k marks = filter (λ m. m.step == k) marks

-- the marks of step k applied
unfoldable pub after_marks : ℕ → List Mark → State → State
after_marks k marks s = fold marked s (marks_at k marks)

-- the state before step k of the run from a state, and the state that step k starts from
unfoldable pub pre : State → Setup → List Mark → ℕ → State
pre start setup marks zero = start
pre start setup marks (suc k) = exec (after_marks k marks (pre start setup marks k)) setup

unfoldable pub post : State → Setup → List Mark → ℕ → State
post start setup marks k = after_marks k marks (pre start setup marks k)

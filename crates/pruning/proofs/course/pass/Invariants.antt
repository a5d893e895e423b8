use Rattle.std.proofs.Common.{◌≡◌, true}
use Rattle.pruning.specs.Courses.{LeadsOn}
use Rattle.pruning.specs.Touches.{TellsAll}
use Rattle.pruning.proofs.course.pass.Given as goal

abbrev pub invariant-loop-done : goal.invariant-loop-done
invariant-loop-done l = record {
  kept : TellsAll l.fn.keys.items l.keys.items;
  leads : l.is_whole ≡ true → LeadsOn l.keys.items l.setup l.from l.done l.fn.machine l.machine;
}

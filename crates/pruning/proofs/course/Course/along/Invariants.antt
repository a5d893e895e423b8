use Rattle.std.proofs.Common.{◌≡◌, ◌+◌, length}
use Rattle.pruning.specs.Courses.{IsCourse}
use Rattle.pruning.proofs.CourseSteps.{GoesOn}
use Rattle.pruning.proofs.course.Course.along.Given as goal

abbrev pub invariant-loop-place : goal.invariant-loop-place
invariant-loop-place l = record {
  count : length l.machines.items ≡ l.place + 1;
  course : IsCourse l.keys.items l.setup l.apart l.machines.items;
  last : GoesOn l.machines.items l.place l.machine;
}

use Rattle.pruning.proofs.CourseSteps.{course-told}
use Rattle.pruning.proofs.course.Course.of.Goals as goal

pub invariant_of-result : goal.invariant_of-result
invariant_of-result c = record {
  some = c.requires.some;
  right = course-told _ _ c.args.setup c.args.apart _ c.new.ensures c.requires.course;
}

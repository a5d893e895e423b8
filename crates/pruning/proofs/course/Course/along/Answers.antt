use Rattle.std.proofs.Common.{◌+◌, length, subst, sym, ap, ◌∙◌}
use Rattle.std.proofs.lemmas.List.{length-append}
use Rattle.pruning.specs.Courses.{IsCourse}
use Rattle.pruning.proofs.CourseSteps.{GoesOn, course-more, course-told, goes-on}
use Rattle.pruning.proofs.course.Course.along.Goals as goal

pub of-requires-clause-course : goal.of-requires-clause-course
of-requires-clause-course c =
    course-told _ _ c.in_ok-setup.setup c.max-apart.result _ c.in_ok-next.ensures.kept c.loop-place.invariant.course

pub of-requires-then-not-is_running-clause-course : goal.of-requires-then-not-is_running-clause-course
of-requires-then-not-is_running-clause-course c =
    let inv = c.loop-place.invariant in
    subst (IsCourse c.pass.new.keys.items c.in_ok-setup.setup c.max-apart.result) (sym c.in_ok-machine-2.ensures.held)
    (course-more _ _ c.in_ok-setup.setup c.max-apart.result c.loop-place.place _ _ _ inv.count c.in_ok-next.ensures.kept
    inv.course inv.last (c.in_ok-next.ensures.leads c.if-not-is_whole.false))

pub loop-place-preserved : goal.loop-place-preserved
loop-place-preserved c =
    let inv = c.loop-place.invariant in
    let place = c.loop-place.place in
    let more = sym c.in_ok-machine-2.ensures.held in
    record {
      count = ap length (sym more) ∙ length-append c.loop-place.machines.items _ ∙ ap (λ n. n + 1) inv.count;
      course = subst (IsCourse c.pass.new.keys.items c.in_ok-setup.setup c.max-apart.result) more
          (course-more _ _ c.in_ok-setup.setup c.max-apart.result place _ _ _ inv.count
          c.in_ok-next.ensures.kept inv.course inv.last (c.in_ok-next.ensures.leads c.if-not-is_whole.false));
      last = subst (λ machines. GoesOn machines (place + 1) c.in_ok-machine-2.machine) more
          (goes-on c.loop-place.machines.items place _ _ inv.count c.in_ok-machine-2.ensures.shows);
    }

use Rattle.std.proofs.Common.{◌-◌, arith}
use Rattle.std.proofs.lemmas.Result.{IfOk-weaker}
use Rattle.pruning.proofs.ApartSteps.{place-on, shows-nowhere, shows-on}
use Rattle.pruning.proofs.course.Course.run.Goals as goal

pub loop-look-init : goal.loop-look-init
loop-look-init c = record {
  later = omega arith;
  within = c.requires;
  shows = λ s h. shows-nowhere c.args.machine c.args.setup.now c.args.step s h;
}

pub loop-look-preserved : goal.loop-look-preserved
loop-look-preserved c =
    let inv = c.loop-look.invariant in
    let course = c.args.self.now in
    let stop = c.in-Some.stop in
    let place = c.in_ok-next.place in
    let at = c.in-Some.ensures in
    let parts = place-on course.first course.apart stop.place place c.in_ok-next.ensures.later in
    let most = place-on course.first course.apart place c.last_place.result c.in_ok-next.ensures.within in
    let last = c.last_place.ensures.within in
    let after = at.later in
    let here = at.step in
    let before = inv.later in
    record {
      later = omega (arith, parts, after, here, before);
      within = omega (arith, most, last);
      shows =
          shows-on c.args.setup.now c.args.machine _ _ (stop.step - c.args.step) _ _
          (omega (arith, parts, after, here, before))
          (shows-on c.args.setup.now c.args.machine _ _ (c.loop-look.step - c.args.step) _ (stop.step - c.args.step)
          (omega (arith, after, before)) inv.shows c.in_ok-come.ensures.shows) c.in_ok-next.ensures.shows;
    }

pub returns : goal.returns
returns c =
    let inv = c.loop-look.invariant in
    let before = inv.later in
    let within = inv.within in
    IfOk-weaker c.run-2.result _ _ (λ r on.
    shows-on c.args.setup.now c.args.machine _ r (c.loop-look.step - c.args.step) (c.args.last - c.loop-look.step) _
    (omega (arith, before, within)) inv.shows on) c.run-2.ensures.shows

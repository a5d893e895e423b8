use Rattle.std.proofs.Common.{length, refl}
use Rattle.std.proofs.lemmas.Option.{slice_get_read}
use Rattle.sweeps.proofs.landmarks.Landmarks.meets.Goals as goal

pub returns-in-Some : goal.returns-in-Some
returns-in-Some c same =
    let machines = c.args.self.now.machines.items in
    record {
      place = c.in-Some.place;
      held = c.index.result.now;
      there = slice_get_read machines (length machines) c.in-Some.place c.index.result.now refl c.in-Some.ensures.within
          c.index.ensures;
      before = c.in-Some.ensures.place;
      shows = c.is_same.ensures same;
    }

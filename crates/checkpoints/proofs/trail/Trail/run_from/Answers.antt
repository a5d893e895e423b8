use Rattle.std.proofs.Common.{◌≡◌, ◌*◌, ◌/◌, slice_index_or, subst}
use Rattle.std.proofs.Math.Nat.{mul_comm}
use Rattle.std.proofs.lemmas.Result.{IfOk-weaker}
use Rattle.guest_machine.specs.Run.{pre}
use Rattle.guest_machine.specs.Shows.{Shows}
use Rattle.checkpoints.specs.Places.{places_of}
use Rattle.checkpoints.specs.Trails.{machines_of, last_held, table_of, loaded_of, first_use, spacing_of}
use Rattle.checkpoints.proofs.trail.Trail.run_from.Goals as goal

pub returns-clause-shows : goal.returns-clause-shows
unfolding machines_of spacing_of
returns-clause-shows c =
    let setup = c.args.setup.now in
    let marks = c.args.marks.now in
    let place = c.args.step / c.args.self.now.spacing in
    let at : c.args.self.now.spacing * place ≡ place * c.args.self.now.spacing = mul_comm _ _ in
    IfOk-weaker c.run_on.result _ _
    (λ machine shows start right.
    shows start (c.requires.copy c.args.copy _
    (subst (λ n. Shows (slice_index_or (places_of c.args.self.now.held) place c.args.copy) (pre start setup marks n)) at
    (right.held place c.args.copy c.requires.held))))
    c.run_on.ensures.shows

pub returns-clause-right : goal.returns-clause-right
unfolding machines_of last_held table_of loaded_of first_use spacing_of
returns-clause-right c start right = record {
  nothing_read = right.nothing_read;
  nothing_ended = right.nothing_ended;
  nothing_called = right.nothing_called;
  held = right.held;
  uses = right.uses;
}

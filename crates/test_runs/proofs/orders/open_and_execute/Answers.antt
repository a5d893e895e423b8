use Rattle.std.proofs.Common.{Some, inr, refl}
use Rattle.test_runs.specs.Executed.{path_of}
use Rattle.test_runs.proofs.orders.open_and_execute.Goals as goal

pub returns : goal.returns
returns g c =
    inr (
      g.L.Write.contents c.open.new.self,
      (c.open.new.self, c.open.ensures.opened c.if-not-open.false, refl),
      c.open.ensures.contents,
      c.execute.ensures (Some (path_of c.args.plan.place)),
    )

use Rattle.std.proofs.lemmas.Result.{on_ok_weaker}
use Rattle.guest_machine.proofs.Showing.{holds-altered}
use Rattle.guest_machine.proofs.machine.Guest.alter.Goals as goal

pub returns : goal.returns
returns c =
    on_ok_weaker c.act.result (λ done. holds-altered c.args.self.now _ c.args.alteration.now done) c.act.ensures

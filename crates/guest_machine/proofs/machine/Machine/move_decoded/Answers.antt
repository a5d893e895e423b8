use Rattle.std.proofs.Common.{◌∙◌, ap}
use Rattle.std.specs.Box.{with_value}
use Rattle.guest_machine.specs.declared.machine.Guest.{Guest}
use Rattle.guest_machine.proofs.machine.Machine.move_decoded.Goals as goal

pub returns-clause-same : goal.returns-clause-same
returns-clause-same c =
    ap (λ (guest : Guest). record c.args.self.now { guest = with_value c.args.self.now.guest guest })
    (c.move_decoded.ensures.same ∙ c.deref_mut.ensures.value)

pub returns-clause-other : goal.returns-clause-other
returns-clause-other c =
    ap (λ (guest : Guest). record c.args.other.now { guest = with_value c.args.other.now.guest guest })
    (c.move_decoded.ensures.other ∙ c.deref_mut-2.ensures.value)

use Rattle.std.proofs.Common.{◌∙◌, ap}
use Rattle.std.specs.Box.{with_value}
use Rattle.guest_machine.specs.declared.machine.Guest.{Guest}
use Rattle.guest_machine.proofs.machine.Machine.copy_decoded.Goals as goal

pub returns : goal.returns
returns c =
    ap (λ (guest : Guest). record c.args.self.now { guest = with_value c.args.self.now.guest guest })
    (c.copy_decoded.ensures ∙ c.deref_mut.ensures.value)

use Rattle.std.proofs.Common.{◌∙◌, ap}
use Rattle.std.specs.Box.{with_value}
use Rattle.guest_machine.specs.declared.machine.Guest.{Guest}
use Rattle.guest_machine.proofs.machine.Machine.share_moving.Goals as goal

pub returns-in_err-guest-clause-same : goal.returns-in_err-guest-clause-same
returns-in_err-guest-clause-same c =
    ap (λ (guest : Guest). record c.args.self.now { guest = with_value c.args.self.now.guest guest })
    (c.share_moving.ensures.same ∙ c.deref_mut.ensures.value)

pub returns-in_err-new-clause-same : goal.returns-in_err-new-clause-same
returns-in_err-new-clause-same c =
    ap (λ (guest : Guest). record c.args.self.now { guest = with_value c.args.self.now.guest guest })
    (c.share_moving.ensures.same ∙ c.deref_mut.ensures.value)

pub returns-clause-same : goal.returns-clause-same
returns-clause-same c =
    ap (λ (guest : Guest). record c.args.self.now { guest = with_value c.args.self.now.guest guest })
    (c.share_moving.ensures.same ∙ c.deref_mut.ensures.value)

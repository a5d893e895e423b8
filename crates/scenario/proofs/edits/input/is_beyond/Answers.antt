use Rattle.std.proofs.Common.{◌+◌, ◌-◌, ◌^◌, ◌∙◌, ap, arith, nat_lt}
use Rattle.scenario.proofs.InputSteps.{far-end}
use Rattle.scenario.proofs.edits.input.is_beyond.Goals as goal

pub returns : goal.returns
returns c =
    ap (λ end. nat_lt c.args.len end) c.saturating_add-end.ensures
    ∙ far-end c.args.len (c.args.offset + c.args.count) (2 ^ 64 - 1) (omega (arith, c.requires))

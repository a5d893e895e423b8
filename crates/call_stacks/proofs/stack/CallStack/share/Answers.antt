use Rattle.std.proofs.Common.{ap, ◌∙◌, ◌≤◌, length, arith}
use Rattle.call_stacks.proofs.Stacks.{copied}
use Rattle.call_stacks.proofs.stack.CallStack.share.Goals as goal

pub returns : goal.returns
returns c =
    let fits : length c.args.self.now ≤ c.capacity-capacity.result = omega (arith, ap length c.self.view_is) in
    copied _ _ _ _ _ _ c.capacity-capacity.result c.in_ok-frames.ensures c.extend_from_slice.ensures
    c.extend_from_slice-2.ensures (c.as_slices.ensures ∙ c.self.view_is) fits

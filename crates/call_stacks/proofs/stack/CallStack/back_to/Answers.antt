use Rattle.std.proofs.Common.{◌≡◌, ap, sym, ◌∙◌, ◌-◌, ◌+◌, length}
use Rattle.call_stacks.proofs.Stacks.{cut, uncut}
use Rattle.call_stacks.proofs.stack.CallStack.back_to.Goals as goal

pub returns-in-Some : goal.returns-in-Some
returns-in-Some c =
    let kept : c.saturating_sub-kept.result
    ≡ length c.self.inside.frames.items - (c.in-Some.newer + 1) = c.saturating_sub-kept.ensures
    ∙ ap (λ n. n - (c.in-Some.newer + 1)) c.len.ensures.len in
    ap (λ b. b.items) c.truncate_front.ensures
    ∙ cut _ _ c.args.target c.in-Some.newer c.saturating_sub-kept.result c.self.view_is c.in-Some.ensures kept

pub returns-in_default : goal.returns-in_default
returns-in_default c = sym c.self.view_is ∙ uncut _ _ c.args.target c.self.view_is c.in_default.ensures

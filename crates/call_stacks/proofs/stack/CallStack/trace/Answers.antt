use Rattle.std.proofs.Common.{◌≡◌, ap, sym, ◌∙◌, ◌<◌, ◌++◌, ◌∷◌, [], length, take, min, arith}
use Rattle.std.specs.List.{slice_get}
use Rattle.call_stacks.proofs.Stacks.{sites_more, sites_all, sites_none}
use Rattle.call_stacks.proofs.stack.CallStack.trace.Goals as goal
use Rattle.call_stacks.proofs.stack.CallStack.trace.Goals.{in-Some, in_default}

pub loop-i-preserved : goal.loop-i-preserved
loop-i-preserved c =
    let few : c.loop-i.i < 23 = omega arith in
    let inside : c.loop-i.i < length c.self.inside.frames.items = omega arith in
    elim c.match-get.branch [
      | in-Some w ↦
          w.trace-is ∙ w.push.ensures
          ∙ ap (λ t. take 24 (t ++ w.in-Some.frame.now.site ∷ [])) c.loop-i.invariant
          ∙ sites_more c.args.pc c.loop-i.i c.args.self.now w.in-Some.frame.now few
          (ap (λ xs. slice_get xs c.loop-i.i) (sym c.self.view_is) ∙ sym w.in-Some.ensures)
      | in_default w ↦ absurd (sites_none c.loop-i.i c.self.inside.frames.items inside (sym w.in_default.ensures))
    ]

pub returns : goal.returns
returns c =
    let all : c.loop-i.i ≡ min 23 (length c.args.self.now) = omega (arith, ap length c.self.view_is) in
    c.loop-i.invariant ∙ sites_all c.args.pc c.loop-i.i c.args.self.now all

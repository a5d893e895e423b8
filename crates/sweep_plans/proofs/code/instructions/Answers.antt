use Rattle.std.proofs.Common.{◌≡◌, ◌+◌, ◌-◌, ◌*◌, ◌++◌, suc, false, ap, sym, ◌∙◌, arith, length, length-append}
use Rattle.sweep_plans.specs.Plans.{count, instruction_at, instructions, is_long, somewhere}
use Rattle.sweep_plans.proofs.CodeSteps.{next-half, no-halves, one-at-most}
use Rattle.sweep_plans.proofs.code.instructions.Goals as goal

pub loop-i-init : goal.loop-i-init
loop-i-init c =
    let halves = c.args.halves in
    let addr : 2 * (halves.first + 0) ≡ 2 * halves.first = omega arith in
    let all : count halves - 0 ≡ count halves = omega arith in
    record {
      rest = λ i. c.new-list.ensures.items i ++ instructions c.args.image.now false (addr i) (all i);
      few = omega (arith, ap length c.new-list.ensures.items);
    }

pub loop-i-preserved : goal.loop-i-preserved
loop-i-preserved c =
    let image = c.args.image.now in
    let halves = c.args.halves in
    let i = c.loop-i.i in
    let inside = c.loop-i.inside in
    let list = c.loop-i.list.items in
    let addr = 2 * (halves.first + i) in
    let next = 2 * (halves.first + (i + 1)) in
    let rest = count halves - (i + 1) in
    let place = c.instruction_at-place.ensures in
    let pushed = c.in_ok-push_place.ensures ∙ ap (λ p. list ++ somewhere p) place in
    let long = c.is_long-inside.ensures ∙ ap is_long place in
    let left : count halves - i ≡ suc rest = omega arith in
    let on : next ≡ addr + 2 = omega arith in
    let short = one-at-most (instruction_at image inside addr) in
    let all = length-append list (somewhere (instruction_at image inside addr)) in
    record {
      rest = (λ j. pushed j ++ instructions image (long j) next rest)
          ∙ sym (next-half image inside addr next (count halves - i) rest list left on) ∙ c.loop-i.invariant.rest;
      few = omega (arith, ap length pushed, all, short);
    }

pub returns : goal.returns
returns c =
    let halves = c.args.halves in
    let none : count halves - c.loop-i.i ≡ 0 = omega arith in
    record {
      list = sym (no-halves c.args.image.now c.loop-i.inside (2 * (halves.first + c.loop-i.i))
          (count halves - c.loop-i.i) c.loop-i.list.items none)
          ∙ c.loop-i.invariant.rest;
      few = omega arith;
    }

use Rattle.std.proofs.Common.{◌+◌, ◌++◌, ◌∙◌, ap, append_assoc, append-nil, arith, drop, sym}
use Rattle.tries.specs.Tries.{differ_lines}
use Rattle.tries.proofs.DifferSteps.{other-ends, own-ends, pair-more, pair-stops}
use Rattle.tries.proofs.replies.push_differs.Goals as goal

pub loop-i-preserved : goal.loop-i-preserved
loop-i-preserved c =
    let own = c.args.own.now in
    let other = c.args.other.now in
    let i = c.loop-i.i in
    let rest = differ_lines (drop (i + 1) own) (drop (i + 1) other) in
    let pushed = c.in_ok-push_pair.ensures in
    ap (λ xs. xs ++ rest) pushed ∙ append_assoc c.loop-i.out.items _ rest
    ∙ ap (λ ys. c.loop-i.out.items ++ ys) (sym (pair-more own other i _ (omega arith) (omega arith) c.if-own-i.true))
    ∙ c.loop-i.invariant

pub returns-else-own-i : goal.returns-else-own-i
returns-else-own-i c =
    let out = c.loop-i.out.items in
    sym (append-nil out)
    ∙ ap (λ ys. out ++ ys) (sym (pair-stops c.args.own.now c.args.other.now c.loop-i.i _ (omega arith) (omega arith)
    c.if-own-i.false)) ∙ c.loop-i.invariant

pub returns-else-i-other : goal.returns-else-i-other
returns-else-i-other c =
    let out = c.loop-i.out.items in
    sym (append-nil out)
    ∙ ap (λ ys. out ++ ys) (sym (other-ends (drop c.loop-i.i c.args.own.now) c.args.other.now c.loop-i.i (omega arith)))
    ∙ c.loop-i.invariant

pub returns-after-loop-i : goal.returns-after-loop-i
returns-after-loop-i c =
    let out = c.loop-i.out.items in
    sym (append-nil out)
    ∙ ap (λ ys. out ++ ys) (sym (own-ends c.args.own.now (drop c.loop-i.i c.args.other.now) c.loop-i.i (omega arith)))
    ∙ c.loop-i.invariant

use Rattle.std.proofs.Common.{arith}
use Rattle.pruning.proofs.TouchSteps.{none-but}
use Rattle.pruning.proofs.touches.next_in.Goals as goal

pub returns-then-place-keys-clause-none : goal.returns-then-place-keys-clause-none
returns-then-place-keys-clause-none c step later less =
    none-but c.args.keys.now c.requires.sorted c.args.word c.args.from _ _ c.touch.ensures
    c.place_of-place.ensures.before c.place_of-place.ensures.next step later (omega arith)
    (λ within same. absurd (omega arith))

pub returns-then-next-from-clause-none : goal.returns-then-next-from-clause-none
returns-then-next-from-clause-none c step later less =
    none-but c.args.keys.now c.requires.sorted c.args.word c.args.from _ _ c.touch.ensures
    c.place_of-place.ensures.before c.place_of-place.ensures.next step later (omega arith) (λ within same. omega arith)

pub returns-else-next-from-clause-none : goal.returns-else-next-from-clause-none
returns-else-next-from-clause-none c step later less =
    none-but c.args.keys.now c.requires.sorted c.args.word c.args.from _ _ c.touch.ensures
    c.place_of-place.ensures.before c.place_of-place.ensures.next step later (omega arith)
    (λ within same. absurd (omega (arith, same)))

use Rattle.std.proofs.Common.{arith}
use Rattle.guest_heap.proofs.GapSteps.{passed_part}
use Rattle.guest_heap.proofs.gaps.row.GapRow.past.Goals as goal

pub returns-then-at-from-clause-passed : goal.returns-then-at-from-clause-passed
returns-then-at-from-clause-passed c blocks redzone hold =
    let full = c.is_full-2.ensures c.if-is_full-2.true in
    passed_part blocks c.args.size redzone c.args.at c.aligned-then-at-from.result c.min-until.result c.args.self.now
    c.get-range.result hold c.get-range.ensures c.min-until.ensures full.0 full.1
    (omega (arith, c.if-from-at.true, c.from-then-is_full-2.ensures))
    (omega (arith, c.if-at-from.true, c.from-then-from-at.ensures)) c.aligned-then-at-from.ensures.multiple
    (omega (arith, c.aligned-then-at-from.ensures.near, c.from-then-at-from.ensures))

use Rattle.std.proofs.Common.{arith}
use Rattle.guest_elf.proofs.Strings.{ends_below}
use Rattle.guest_elf.proofs.symbols.names_end.Goals as goal

pub returns : goal.returns
returns c = λ start.
    let inv = c.loop-index.invariant in
    ends_below c.args.strings.now c.loop-index.end inv.inside inv.last
    (λ k above below. inv.later k above (omega arith)) start

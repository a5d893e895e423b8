use Rattle.std.proofs.Common.{ℕ, ◌+◌, ◌-◌, ◌<◌, length, refl, ap₂, sym, subst, arith}
use Rattle.std.proofs.lemmas.Bool.Decides.{nat_tests}
use Rattle.std.proofs.lemmas.Option.{slice_get_read}
use Rattle.leak_search.proofs.ReachSteps.{from_first, to_last}
use Rattle.leak_search.proofs.finding.reach_of.Goals as goal

pub returns-clause-low : goal.returns-clause-low
returns-clause-low c =
    let blocks = c.args.blocks.now in
    let first = c.index-blocks-0.result in
    let some : 0 < length blocks = grind (arith, nat_tests, c.is_empty.ensures, c.if-is_empty.false) in
    from_first blocks first c.requires (slice_get_read blocks (length blocks) 0 first refl some c.index-blocks-0.is)

pub returns-clause-high : goal.returns-clause-high
returns-clause-high c starts value b points =
    let blocks = c.args.blocks.now in
    let last = c.index-blocks-blocks.result in
    let some : 0 < length blocks = grind (arith, nat_tests, c.is_empty.ensures, c.if-is_empty.false) in
    let high = to_last blocks last (length blocks - 1) c.requires (omega arith)
    (slice_get_read blocks (length blocks) (length blocks - 1) last refl (omega arith) c.index-blocks-blocks.is) starts
    value b points in
    subst (λ (n : ℕ). value < n + 1) (ap₂ (λ m n. m + n) (sym c.from.ensures) (sym c.from-2.ensures)) high

pub returns-clause-positive : goal.returns-clause-positive
returns-clause-positive c =
    let blocks = c.args.blocks.now in
    let first = c.index-blocks-0.result in
    let some : 0 < length blocks = grind (arith, nat_tests, c.is_empty.ensures, c.if-is_empty.false) in
    c.requires.positive 0 first (slice_get_read blocks (length blocks) 0 first refl some c.index-blocks-0.is)

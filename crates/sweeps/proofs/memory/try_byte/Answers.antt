use Rattle.std.proofs.Common.{◌≡◌, ◌+◌, suc, List, sym, ◌∙◌, subst, arith}
use Rattle.std.proofs.lemmas.Result.{on_ok_weaker}
use Rattle.std.specs.List.{All}
use Rattle.sweep_plans.specs.declared.change.Change.{Change}
use Rattle.sweeps.specs.Standing.{IsAt}
use Rattle.sweeps.specs.Sweeps.{CountsMore}
use Rattle.sweeps.proofs.MemorySteps.{counts-byte, counts-unread, read-there, turns-at}
use Rattle.sweeps.proofs.memory.try_byte.Goals as goal

pub returns-then-byte-ne-READ-clause-met : goal.returns-then-byte-ne-READ-clause-met
returns-then-byte-ne-READ-clause-met c =
    counts-unread c.args.scenario.now c.args.turning.step c.args.addr c.args.table.now
    c.args.turning.settings.with_output c.args.counts.now c.args.out.now.items c.requires.table c.ranges.addr.fits
    (λ one. c.if-byte-ne-READ.true (c.byte.ensures.byte ∙ one))

pub try_turned-requires-clause-at : goal.try_turned-requires-clause-at
try_turned-requires-clause-at c =
    let at = c.requires.turning.before.standing in
    subst (All (IsAt c.args.scenario.now c.args.site.now.standing)) (sym (c.deref.ensures.value
    ∙ c.in_ok-changes.ensures))
    (turns-at c.args.scenario.now c.args.site.now.standing c.args.turning.step at.0 c.args.addr at.1
    c.ranges.addr.fits at.2)

pub returns-clause-met : goal.returns-clause-met
returns-clause-met c =
    let sc = c.args.scenario.now in
    let wo = c.args.turning.settings.with_output in
    let up : c.args.addr + 1 ≡ suc c.args.addr = omega arith in
    let read = read-there sc c.args.turning.step c.args.table.now c.requires.table c.args.addr c.ranges.addr.fits
    (sym c.byte.ensures.byte ∙ c.if-byte-ne-READ.false) in
    on_ok_weaker c.try_turned.result (λ met.
    counts-byte sc c.args.turning.step c.args.addr (c.args.addr + 1) wo c.args.counts.now c.try_turned.new.counts
    c.args.out.now.items c.try_turned.new.out.items up read
    (subst (λ (xs : List Change). CountsMore c.args.counts.now c.try_turned.new.counts wo sc xs c.args.out.now.items
    c.try_turned.new.out.items) (c.deref.ensures.value ∙ c.in_ok-changes.ensures) met)) c.try_turned.ensures.met

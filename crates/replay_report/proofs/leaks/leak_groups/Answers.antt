use Rattle.std.proofs.Common.{ap, ap₂, sym, ◌∙◌, take, take_all, arith}
use Rattle.replay_report.specs.Leaks.{leak_groups, with_leak}
use Rattle.report_lines.proofs.Joins.{next_taken}
use Rattle.replay_report.proofs.LeakSteps.{groups_more}
use Rattle.replay_report.proofs.leaks.leak_groups.Goals as goal

pub loop-record-preserved : goal.loop-record-preserved
loop-record-preserved c =
    let i = c.loop-record.record-index in
    let records = c.args.records.now in
    let r = c.record-item.result in
    c.in_ok-add_leak.ensures
    ∙ ap₂ (λ groups key. with_leak groups key r.size) c.loop-record.invariant c.key_of.ensures
    ∙ sym (groups_more c.args.callers (take i records) r)
    ∙ ap (leak_groups c.args.callers) (next_taken records i r r c.loop-record-test.true c.record-item.is)

pub returns : goal.returns
returns c =
    c.loop-record.invariant
    ∙ ap (leak_groups c.args.callers) (take_all c.loop-record.record-index c.args.records.now (omega arith))

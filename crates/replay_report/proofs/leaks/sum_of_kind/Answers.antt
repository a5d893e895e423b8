use Rattle.std.proofs.Common.{◌∙◌, ap, sym, take}
use Rattle.replay_report.specs.Leaks.{of_kind, sum_of, with_block}
use Rattle.report_lines.proofs.Joins.{next_taken}
use Rattle.replay_report.proofs.LeakSteps.{kind_more, kind_same, leak_eq}
use Rattle.replay_report.proofs.leaks.sum_of_kind.Goals as goal
use Rattle.replay_report.proofs.leaks.sum_of_kind.Goals.{then-eq, else-eq}

pub loop-record-preserved : goal.loop-record-preserved
loop-record-preserved c =
    let kind = c.args.kind in
    let before = take c.loop-record.record-index c.args.records.now in
    let r = c.record-item.result in
    let next = next_taken c.args.records.now c.loop-record.record-index r r c.loop-record-test.true c.record-item.is in
    let same = sym (leak_eq kind r.kind) ∙ sym c.eq.ensures in
    elim c.if-eq.branch [
      | then-eq w ↦ w.sum-is ∙ w.with_block-sum.ensures ∙ ap (λ sum. with_block sum r.size) c.loop-record.invariant
          ∙ sym (kind_more kind before r (same ∙ w.if-eq.true)) ∙ ap (λ records. sum_of (of_kind kind records)) next
      | else-eq w ↦ w.sum-is ∙ c.loop-record.invariant ∙ sym (kind_same kind before r (same ∙ w.if-eq.false))
          ∙ ap (λ records. sum_of (of_kind kind records)) next
    ]

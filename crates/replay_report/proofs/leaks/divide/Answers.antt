use Rattle.std.proofs.Common.{◌∙◌, ◌++◌, ap, sym, append-nil, take, take_all, ◌∷◌, [], arith}
use Rattle.replay_report.specs.Leaks.{shown_records, hidden_records}
use Rattle.report_lines.proofs.Joins.{joined_more, joined_same}
use Rattle.replay_report.proofs.LeakSteps.{shown_more, shown_same, hidden_more, hidden_same}
use Rattle.replay_report.proofs.leaks.divide.Goals as goal
use Rattle.replay_report.proofs.leaks.divide.Goals.{then-branch+in_ok-push, else-branch+in_ok-push-2}

pub loop-record-init : goal.loop-record-init
unfolding shown_records hidden_records
loop-record-init c = (sym (append-nil c.args.shown.now.items), sym (append-nil c.args.hidden.now.items))

pub loop-record-preserved : goal.loop-record-preserved
loop-record-preserved c =
    let hides = c.args.suppressions.now in
    let image = c.args.image.now in
    let i = c.loop-record.record-index in
    let before = take i c.args.records.now in
    let r = c.record-item.result in
    elim c.if-branch.branch [
      | then-branch+in_ok-push w ↦
          (let hidden = sym c.in_ok-is_hidden.ensures ∙ w.if-branch.true in (
            joined_same (shown_records hides image) c.args.records.now i r r _ _ _ c.loop-record-test.true
                c.record-item.is c.loop-record.invariant.0
                (shown_same hides image before r hidden) (ap (λ v. v.items) w.shown-is),
            joined_more (hidden_records hides image) c.args.records.now i r r _ _ _ c.loop-record-test.true
                c.record-item.is c.loop-record.invariant.1
                (r ∷ []) (hidden_more hides image before r hidden) (ap (λ v. v.items) w.hidden-is
                ∙ w.in_ok-push.ensures.items),
          ))
      | else-branch+in_ok-push-2 w ↦
          (let shown = sym c.in_ok-is_hidden.ensures ∙ w.if-branch.false in (
            joined_more (shown_records hides image) c.args.records.now i r r _ _ _ c.loop-record-test.true
                c.record-item.is c.loop-record.invariant.0
                (r ∷ []) (shown_more hides image before r shown) (ap (λ v. v.items) w.shown-is
                ∙ w.in_ok-push-2.ensures.items),
            joined_same (hidden_records hides image) c.args.records.now i r r _ _ _ c.loop-record-test.true
                c.record-item.is c.loop-record.invariant.1
                (hidden_same hides image before r shown) (ap (λ v. v.items) w.hidden-is),
          ))
    ]

pub returns-clause-shown : goal.returns-clause-shown
returns-clause-shown c =
    c.loop-record.invariant.0
    ∙ ap (λ records. c.args.shown.now.items ++ shown_records c.args.suppressions.now c.args.image.now records)
    (take_all c.loop-record.record-index c.args.records.now (omega arith))

pub returns-clause-hidden : goal.returns-clause-hidden
returns-clause-hidden c =
    c.loop-record.invariant.1
    ∙ ap (λ records. c.args.hidden.now.items ++ hidden_records c.args.suppressions.now c.args.image.now records)
    (take_all c.loop-record.record-index c.args.records.now (omega arith))

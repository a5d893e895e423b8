use Rattle.std.proofs.Common.{◌++◌, refl, ap, sym, ◌∙◌, subst, append-nil}
use Rattle.scenario.specs.Scenario.{IsOutlineOf}
use Rattle.sweeps.proofs.RecallSteps.{begun-recall}
use Rattle.sweeps.specs.Outcomes.{tallied}
use Rattle.sweeps.specs.Tables.{first_lines, rows_after, rows_text}
use Rattle.sweeps.proofs.beginning.count_unedited.Goals as goal

pub returns-clause-counted : goal.returns-clause-counted
unfolding tallied rows_text rows_after
returns-clause-counted c =
    let first = c.in_ok-first.first.items in (
      first,
      record {
        unedited = c.in_ok-first.ensures.outline;
        right = tt;
        tallies = c.in_ok-tallies.ensures;
        edits = refl;
        steps = refl;
        recalled = begun-recall c.args.with_output c.args.run.now.scenario c.begin-2.result
            (subst (IsOutlineOf c.args.with_output c.args.run.now.scenario) (sym (c.begin-2.ensures.unedited
            ∙ c.in_ok-unedited.ensures ∙ c.in_ok-copy.ensures.items ∙ c.deref-2.ensures.value))
            c.in_ok-first.ensures.outline) c.begin-2.ensures.here c.begin-2.ensures.next
            c.begin-2.ensures.lone c.begin-2.ensures.ends;
      },
      c.in_ok-push_first.ensures ∙ ap (λ text. c.args.out.now.items ++ text) (ap first_lines c.deref.ensures.value
          ∙ sym (append-nil (first_lines first))),
    )

use Rattle.std.proofs.Common.{◌<◌, ◌∙◌, ap, arith, length, subst, sym, take_all}
use Rattle.std.specs.List.{list_any}
use Rattle.error_events.specs.Shown.{groups_of}
use Rattle.any_verdicts.specs.Verdicts.{is_kept_use}
use Rattle.clean_reports.proofs.Groups.{found, found-none, passed, past}
use Rattle.any_verdicts.proofs.uses.first_kept_use.Goals as goal
use Rattle.any_verdicts.proofs.uses.first_kept_use.Goals.{in-Some+else-is_kept_use, in_default}

pub returns-then-is_kept_use : goal.returns-then-is_kept_use
returns-then-is_kept_use c =
    sym (found is_kept_use _ c.loop-index.index c.in-Some.group (sym c.get.ensures ∙ c.in-Some.is)
    (sym c.is_kept_use.ensures ∙ c.if-is_kept_use.true) c.loop-index.invariant)

pub returns : goal.returns
returns c =
    sym (found-none is_kept_use (groups_of c.args.groups.now)
    (ap (list_any (λ g. is_kept_use g.kind)) (sym (take_all c.loop-index.index (groups_of c.args.groups.now)
    (omega (arith, c.len-index-end.ensures)))) ∙ c.loop-index.invariant))

pub loop-index-preserved : goal.loop-index-preserved
loop-index-preserved c = elim c.match-get.branch [
  | in-Some+else-is_kept_use w ↦
      passed is_kept_use _ c.loop-index.index w.in-Some.group (sym c.get.ensures ∙ w.in-Some.is)
      (sym w.is_kept_use.ensures ∙ w.if-is_kept_use.false) c.loop-index.invariant
  | in_default w ↦
      let within : c.loop-index.index < length (groups_of c.args.groups.now) =
      subst (λ n. c.loop-index.index < n) c.len-index-end.ensures c.loop-index-test.true in
      absurd (past (groups_of c.args.groups.now) c.loop-index.index within (sym c.get.ensures ∙ w.in_default.is))
]

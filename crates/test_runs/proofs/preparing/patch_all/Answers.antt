use Rattle.std.proofs.Common.{◌≡◌, ℕ, List, ◌∷◌, inl, inr, subst, sym}
use Rattle.exit_status.specs.declared.exec_ends.ExecEnd.{ExecEnd}
use Rattle.scenario.specs.Scenario.{Scenario}
use Rattle.test_runs.specs.Prepared.{IsPatched, NoPatch}
use Rattle.test_runs.proofs.Stages.{keeps-on, patched-keeps}
use Rattle.test_runs.proofs.preparing.patch_all.Goals as goal

pub loop-text-preserved : goal.loop-text-preserved
loop-text-preserved c =
    let before = c.loop-text.scenario in
    let after = c.patch.new.scenario in
    let made = c.in_ok-patch.ensures.ok in
    let all : c.loop-text.texts ≡ c.in-Some.text.now ∷ c.next.new.self = c.in-Some.ensures.some in
    record {
      rest =
          λ done patched. c.loop-text.invariant.rest done
          (subst (λ (texts : List (List ℕ)). IsPatched texts before done) (sym all) (after, made, patched));
      fails =
          λ end none. c.loop-text.invariant.fails end
          (subst (λ (texts : List (List ℕ)). NoPatch c.args.list.now texts before end) (sym all) (inr (
            after,
            made,
            none,
          )));
      kept =
          keeps-on c.args.scenario.now before after c.loop-text.invariant.kept
          (patched-keeps c.in-Some.text.now before after made);
    }

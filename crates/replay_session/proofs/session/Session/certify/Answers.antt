use Rattle.std.proofs.Common.{◌∙◌, ◌++◌, ap, ap₂, refl}
use Rattle.std.proofs.lemmas.Result.{on_ok_weaker}
use Rattle.checkpoints.specs.Words.{is_among}
use Rattle.clean_reports.specs.Lines.{verdict_line}
use Rattle.clean_reports.specs.Uses.{NoUse}
use Rattle.clean_reports.specs.Verdicts.{IsVerdict}
use Rattle.replay_session.proofs.VerdictSteps.{first-none}
use Rattle.replay_session.specs.Session.{turn_of}
use Rattle.scenario.proofs.TrailFacts.{moved, told}
use Rattle.replay_session.proofs.session.Session.certify.Goals as goal

pub invariant_of-self : goal.invariant_of-self
invariant_of-self c = record {
  loads = λ a. ap (λ ranges. is_among ranges a) c.certify.ensures.loaded ∙ c.args.self.now.loads a;
  right =
      moved c.args.self.now.scenario _ _ _ _ c.setup.ensures c.marks.ensures c.certify.ensures.right
      c.args.self.now.right;
  near = c.args.self.now.near;
}

pub returns-clause-tells : goal.returns-clause-tells
unfolding turn_of
returns-clause-tells c =
    let sc = c.args.self.now.scenario in
    let verdict = c.in_ok-verdict.verdict in
    let is = told sc _ _ _ _
    (λ start setup marks step. NoUse start.events → IsVerdict start setup marks step verdict) c.setup.ensures
    c.marks.ensures c.step.ensures c.in_ok-verdict.ensures.verdict c.args.self.now.right in
    on_ok_weaker c.push_verdict.result (λ grew. (
      verdict_line sc.image sc.step verdict,
      (verdict, is (first-none sc), refl),
      grew
          ∙ ap₂ (λ image step. c.args.out.now.items ++ verdict_line image step verdict) c.image.ensures
          c.step-2.ensures,
    )) c.push_verdict.ensures

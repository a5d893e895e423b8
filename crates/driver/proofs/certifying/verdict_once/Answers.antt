use Rattle.std.proofs.Common.{◌≡◌, ◌<◌, ◌^◌, All, List, [], Ok, refl, subst}
use Rattle.std.proofs.lemmas.Result.{IfOk-weaker}
use Rattle.std.specs.Prelude.{Bool, IfOk}
use Rattle.checkpoints.specs.Trails.{IsRightFor}
use Rattle.guest_elf.specs.declared.image.Image.{Image}
use Rattle.guest_machine.specs.State.{State}
use Rattle.clean_reports.specs.Disturbed.{HasBytes, IsStartOf}
use Rattle.clean_reports.specs.Verdicts.{IsCertified}
use Rattle.clean_reports.specs.declared.verdict.Verdict.TheVariants.{Clean}
use Rattle.driver.proofs.VerdictSteps.{certified-once, verdict-once}
use Rattle.driver.proofs.certifying.verdict_once.Goals as goal

pub returns-clause-verdict : goal.returns-clause-verdict
returns-clause-verdict c =
    IfOk-weaker c.certify.result _ _
    (λ verdict tells. verdict-once c.args.image.now c.args.input.items c.args.step c.in_ok-setup.setup
    c.in_ok-setup.ensures c.in_ok-trail.trail c.in_ok-trail.ensures.right verdict tells) c.certify.ensures.verdict

pub returns-clause-certified : goal.returns-clause-certified
returns-clause-certified c = λ ended is.
    certified-once c.args.image.now c.args.input.items c.args.step c.in_ok-setup.setup c.in_ok-setup.ensures
    c.in_ok-trail.trail c.in_ok-trail.ensures.right
    (subst (λ xs. All (λ byte. byte < 2 ^ 8) xs) c.deref.ensures.value c.inputs_are_bytes.ensures)
    (subst (λ r. IfOk r (λ verdict. (ended : Bool) → verdict ≡ Clean ended → (image : Image) (start : State)
    → IsRightFor c.in_ok-trail.trail start c.in_ok-setup.setup [] → IsStartOf image start
    → HasBytes c.in_ok-setup.setup → IsCertified image start c.in_ok-setup.setup [] c.args.step)) is
    c.certify.ensures.certified ended refl)

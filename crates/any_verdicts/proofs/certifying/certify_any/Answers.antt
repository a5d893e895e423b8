use Rattle.std.proofs.Common.{◌≡◌, Bool, ℕ}
use Rattle.guest_elf.specs.declared.image.Image.{Image}
use Rattle.guest_machine.specs.Shows.{Shows}
use Rattle.guest_machine.specs.State.{State}
use Rattle.clean_reports.specs.Agreement.{AreBytes}
use Rattle.clean_reports.specs.Disturbed.{HasBytes, IsStartOf}
use Rattle.clean_reports.specs.Uses.{NoUse}
use Rattle.any_runs.specs.Echoes.{kept}
use Rattle.any_verdicts.specs.Chosen.{secrets_of}
use Rattle.any_verdicts.specs.Verdicts.{AllOthersAreSame, IsAnyVerdict}
use Rattle.any_verdicts.specs.declared.verdict.AnyVerdict.TheVariants.{Same}
use Rattle.any_verdicts.proofs.Fit.{ok-weaker}
use Rattle.any_verdicts.proofs.Running.{certified}
use Rattle.any_verdicts.proofs.certifying.certify_any.Goals as goal

pub returns-clause-same : goal.returns-clause-same
returns-clause-same c =
    let secrets = secrets_of c.args.bytes.now in
    let setup = c.args.setup.now in
    let n = c.args.steps in
    ok-weaker
    (λ verdict. (start : State) → Shows c.args.machine start → NoUse (kept start.events)
    → IsAnyVerdict secrets start setup n verdict)
    (λ verdict. (ended : Bool) (read : ℕ) → verdict ≡ Same ended read → (image : Image) (start : State)
    → Shows c.args.machine start → IsStartOf image start → AreBytes start.bytes → HasBytes setup
    → AllOthersAreSame secrets start setup n)
    c.run_any.result
    (λ verdict told ended read is image start shows begins bytes small.
    certified image secrets start setup n verdict ended read is begins bytes small (told start shows))
    c.run_any.ensures.verdict

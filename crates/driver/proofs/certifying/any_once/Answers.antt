use Rattle.std.proofs.Common.{◌≡◌, ◌<◌, ◌^◌, All, Bool, IfOk, refl, subst, ℕ}
use Rattle.std.proofs.lemmas.Result.{IfOk-weaker}
use Rattle.guest_elf.specs.declared.image.Image.{Image}
use Rattle.guest_machine.specs.Run.{start_state}
use Rattle.guest_machine.specs.Shows.{Shows}
use Rattle.guest_machine.specs.State.{State}
use Rattle.clean_reports.specs.Agreement.{AreBytes}
use Rattle.clean_reports.specs.Disturbed.{HasBytes, IsStartOf}
use Rattle.any_verdicts.specs.Chosen.{secrets_of}
use Rattle.any_verdicts.specs.Verdicts.{AllOthersAreSame}
use Rattle.any_verdicts.specs.declared.verdict.AnyVerdict.TheVariants.{Same}
use Rattle.driver.proofs.VerdictSteps.{any-once, same-once, secrets-are}
use Rattle.driver.proofs.certifying.any_once.Goals as goal

pub returns-clause-verdict : goal.returns-clause-verdict
returns-clause-verdict c =
    let image = c.args.image.now in
    let bytes = c.in_ok-bytes.bytes in
    let are = c.in_ok-bytes.ensures in
    IfOk-weaker c.certify_any.result _ _
    (λ verdict tells. any-once image c.args.input.items c.args.step c.in_ok-setup.setup c.in_ok-setup.ensures
    c.args.chosen.now bytes (secrets-are c.args.chosen.now bytes are.input are.memory are.revealed) verdict
    (tells (start_state image) c.in_ok-machine.ensures)) c.certify_any.ensures.verdict

pub returns-clause-same : goal.returns-clause-same
returns-clause-same c = λ ended read is.
    let image = c.args.image.now in
    let bytes = c.in_ok-bytes.bytes in
    let are = c.in_ok-bytes.ensures in
    let same = subst (λ r. IfOk r (λ verdict. (ended : Bool) (read : ℕ) → verdict ≡ Same ended read
    → (image : Image) (start : State) → Shows c.in_ok-machine.machine start → IsStartOf image start
    → AreBytes start.bytes → HasBytes c.in_ok-setup.setup
    → AllOthersAreSame (secrets_of bytes) start c.in_ok-setup.setup c.args.step)) is c.certify_any.ensures.same in
    same-once image c.args.input.items c.args.step c.in_ok-setup.setup c.in_ok-setup.ensures c.args.chosen.now bytes
    (secrets-are c.args.chosen.now bytes are.input are.memory are.revealed)
    (subst (λ xs. All (λ byte. byte < 2 ^ 8) xs) c.deref.ensures.value c.inputs_are_bytes.ensures)
    (same ended read refl image (start_state image) c.in_ok-machine.ensures)
